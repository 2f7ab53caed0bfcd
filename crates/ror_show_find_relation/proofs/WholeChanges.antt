-- What is listed of two whole relations is so of the one alone.
use Rattle.std.proofs.Common.{◌≡◌, ℕ, ◌<◌, true, false, List, sym, ◌∙◌}
use Rattle.std.proofs.lemmas.Bool.{false≢true}
use Rattle.ror_statement.specs.declared.statement.Statement.{Statement}
use Rattle.ror_table.specs.Table.{DecisionTable}
use Rattle.ror_value.specs.Laws.{IsNecessarilyPreferred}
use Rattle.ror_proof.specs.declared.answer.Answer.{Answer}
use Rattle.ror_show_find_relation.specs.declared.change.Change.{Change}
use Rattle.ror_show_find_relation.specs.declared.change.Change.TheVariants as changes
use Rattle.ror_show_find_relation.specs.Cells.{cell_at, is_over}
use Rattle.ror_show_find_relation.specs.CellLaws.{AreTrueAnswers, IsWholeRelation}
use Rattle.ror_show_find_relation.specs.DifferenceLaws.{IsOverAlone, IsChanged}
use Rattle.ror_show_find_relation.specs.WholeLaws.{IsPreferredAlone, IsWholeChange, WholeChangesAreTrue}
use Rattle.ror_show_find_relation.proofs.DifferenceLemmas.{lists-difference}
use Rattle.ror_show_find_relation.proofs.Known.{known-at, known-complete, known-sound}

over : (t : DecisionTable) (list : List Statement) (n : ℕ) (xs : List Answer) (a b : ℕ) → AreTrueAnswers t list xs → a < n → b < n → is_over (cell_at n xs a b) ≡ true → IsNecessarilyPreferred t list a b
over t list n xs a b all row column is = known-sound t list xs n a b all (known-at n xs a b row column ∙ is)

not_over : (t : DecisionTable) (list : List Statement) (n : ℕ) (xs : List Answer) (a b : ℕ) → AreTrueAnswers t list xs → IsWholeRelation t list n xs → a < n → b < n → is_over (cell_at n xs a b) ≡ false → IsNecessarilyPreferred t list a b → ⊥
not_over t list n xs a b all whole row column fails is =
    false≢true (sym fails ∙ sym (known-at n xs a b row column) ∙ known-complete t list xs n a b all whole row column is)

alone : (t : DecisionTable) (list other : List Statement) (n : ℕ) (xs ys : List Answer) (a b : ℕ) → AreTrueAnswers t list xs → AreTrueAnswers t other ys → IsWholeRelation t other n ys → a < n → b < n → IsOverAlone n xs ys a b → IsPreferredAlone t list other a b
alone t list other n xs ys a b first second whole row column is =
    (over t list n xs a b first row column is.0, λ preferred. not_over t other n ys a b second whole row column is.1 preferred)

whole_by : (change : Change) (t : DecisionTable) (before now : List Statement) (n : ℕ) (xs ys : List Answer) (a b : ℕ) → AreTrueAnswers t before xs → AreTrueAnswers t now ys → IsWholeRelation t before n xs → IsWholeRelation t now n ys → a < n → b < n → IsChanged change n xs ys a b → IsWholeChange change t before now a b
whole_by changes.Stayed t before now n xs ys a b first second whole_first whole_second row column is =
    (over t before n xs a b first row column is.0, over t now n ys a b second row column is.1)
whole_by changes.TurnedRound t before now n xs ys a b first second whole_first whole_second row column is =
    (alone t before now n xs ys a b first second whole_second row column is.0, alone t now before n ys xs b a second first whole_first column row is.1)
whole_by changes.NoLonger t before now n xs ys a b first second whole_first whole_second row column is =
    alone t before now n xs ys a b first second whole_second row column is.0
whole_by changes.New t before now n xs ys a b first second whole_first whole_second row column is =
    alone t now before n ys xs a b second first whole_first row column is.0

pub whole-changes : WholeChangesAreTrue
whole-changes change t before now n xs ys a b first second whole_first whole_second there =
    let listed = (lists-difference change n xs ys a b).0 there in
    whole_by change t before now n xs ys a b first second whole_first whole_second listed.first listed.second listed.is
