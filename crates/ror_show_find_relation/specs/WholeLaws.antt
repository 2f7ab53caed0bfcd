-- What holds of cells and of changes where no answer is too wide.
use Rattle.std.specs.Prelude.{◌≡◌, ◌≢◌, ℕ, ◌<◌, false, List, map, Contains}
use Rattle.std.specs.List.{AllByRecursion}
use Rattle.ror_statement.specs.declared.statement.Statement.{Statement}
use Rattle.ror_table.specs.Table.{DecisionTable}
use Rattle.ror_value.specs.Laws.{IsNecessarilyPreferred}
use Rattle.ror_proof.specs.declared.answer.Answer.{Answer}
use Rattle.ror_check.specs.Proof.{is_wide}
use Rattle.ror_relation.specs.Pairs.{relation_questions}
use Rattle.ror_show_find_relation.specs.declared.cell.Cell.TheVariants as cells
use Rattle.ror_show_find_relation.specs.declared.change.Change.{Change}
use Rattle.ror_show_find_relation.specs.declared.change.Change.TheVariants as changes
use Rattle.ror_show_find_relation.specs.Cells.{cell_at, cell_rows}
use Rattle.ror_show_find_relation.specs.CellLaws.{AreTrueAnswers, IsWholeRelation}
use Rattle.ror_show_find_relation.specs.Changes.{changed_pairs}
use Rattle.ror_show_find_relation.specs.Pages.{known}

-- Where the answers are those to both questions on each ordered pair of so many alternatives, in order, and none of them is too wide, each
-- cell says something.
abbrev pub CellsAreWhole : Type 0
CellsAreWhole = (n : ℕ) (xs : List Answer) (a b : ℕ) → map (λ x. x.question) xs ≡ relation_questions n
    → AllByRecursion (λ x. is_wide x.verdict ≡ false) xs → a < n → b < n → cell_at n xs a b ≢ cells.Unknown

-- the first is at least as good as the second by every function that agrees with the first list, and not by every one that agrees with the
-- other
abbrev pub IsPreferredAlone : DecisionTable → List Statement → List Statement → ℕ → ℕ → Type 0
IsPreferredAlone t list other a b = IsNecessarilyPreferred t list a b × (IsNecessarilyPreferred t other a b → ⊥)

-- what a change says of all compatible value functions, where each cell says something, before and now
abbrev pub IsWholeChange : Change → DecisionTable → List Statement → List Statement → ℕ → ℕ → Type 0
IsWholeChange changes.Stayed t before now a b = IsNecessarilyPreferred t before a b × IsNecessarilyPreferred t now a b
IsWholeChange changes.TurnedRound t before now a b = IsPreferredAlone t before now a b × IsPreferredAlone t now before b a
IsWholeChange changes.NoLonger t before now a b = IsPreferredAlone t before now a b
IsWholeChange changes.New t before now a b = IsPreferredAlone t now before a b

abbrev pub WholeChangesAreTrue : Type 0
WholeChangesAreTrue = (change : Change) (t : DecisionTable) (before now : List Statement) (n : ℕ) (xs ys : List Answer) (a b : ℕ)
    → AreTrueAnswers t before xs → AreTrueAnswers t now ys → IsWholeRelation t before n xs → IsWholeRelation t now n ys
    → Contains {X = ℕ × ℕ} (changed_pairs (known (cell_rows n xs)) (known (cell_rows n ys)) change) (a, b)
    → IsWholeChange change t before now a b
