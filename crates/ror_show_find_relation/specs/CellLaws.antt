-- What the cells of true answers say is true, and no two of them say so of one pair.
use Rattle.std.specs.Prelude.{◌≡◌, ◌≢◌, ◌↔◌, ℕ, ◌+◌, ◌<◌, true, List, length, ℤ, ◌≤ℤ◌}
use Rattle.std.specs.List.{AllByRecursion}
use Rattle.ror_statement.specs.declared.statement.Statement.{Statement}
use Rattle.ror_table.specs.Table.{DecisionTable, IsTable}
use Rattle.ror_value.specs.Value.{value, IsValueFunction}
use Rattle.ror_proof.specs.declared.answer.Answer.{Answer}
use Rattle.ror_check.specs.Proof.{IsWideOrTrue}
use Rattle.ror_show_find_relation.specs.declared.cell.Cell.{Cell}
use Rattle.ror_show_find_relation.specs.declared.cell.Cell.TheVariants as cells
use Rattle.ror_value.specs.Meaning.{IsConsistent}
use Rattle.ror_value.specs.Laws.{IsNecessarilyPreferred}
use Rattle.ror_show_find_relation.specs.Relations.{holds, IsAbove, IsTransitive, IsAcyclic, Path}
use Rattle.ror_show_find_relation.specs.Arrows.{IsArrow}
use Rattle.ror_show_find_relation.specs.Cells.{cell_at, cell_rows, mirror}
use Rattle.ror_show_find_relation.specs.declared.page.RelationPage.{RelationPage}
use Rattle.ror_show_find_relation.specs.Pages.{known, IsRelationPage}
use Rattle.ror_show_find_relation.specs.Rows.{unknown_pairs, contradictory_pairs, pairs_among}
use Rattle.ror_show_find_relation.specs.Dominance.{dominates}
use Rattle.ror_show_find_relation.specs.Meaning.{Says}

-- each answer that concludes something is true of all compatible functions
abbrev pub AreTrueAnswers : DecisionTable → List Statement → List Answer → Type 0
AreTrueAnswers t list xs = AllByRecursion (λ x. IsWideOrTrue t list x.question x.verdict) xs

abbrev pub CellsAreTrue : Type 0
CellsAreTrue = (t : DecisionTable) (list : List Statement) (xs : List Answer) (n a b : ℕ)
    → AreTrueAnswers t list xs → Says t list (cell_at n xs a b) a b

-- of two different alternatives one cell is true, but for the one that says nothing
abbrev pub OneCell : Type 0
OneCell = (t : DecisionTable) (list : List Statement) (x y : Cell) (a b : ℕ) → a ≢ b
    → Says t list x a b → Says t list y a b → x ≢ cells.Unknown → y ≢ cells.Unknown → x ≡ y

-- what dominates is worth at least as much by every function, whatever is stated
abbrev pub DominanceIsNecessary : Type 0
DominanceIsNecessary = (t : DecisionTable) (w : List ℤ) (a b : ℕ) → dominates t a b ≡ true
    → IsTable t → IsValueFunction t w → value t w b ≤ℤ value t w a

-- the cell of the column against the row is the mirror of the cell of the row against the column
abbrev pub CellsMirror : Type 0
CellsMirror = (n : ℕ) (xs : List Answer) (a b : ℕ) → cell_at n xs b a ≡ mirror (cell_at n xs a b)

-- The page counts each pair of different alternatives once: as decided, open, without a function that agrees, or not concluded.
abbrev pub EachPairIsCounted : Type 0
EachPairIsCounted = (t : DecisionTable) (xs : List Answer) (page : RelationPage) → IsRelationPage t xs page
    → page.counts.decided + page.counts.open + contradictory_pairs page.rows (length t.alternatives)
    + unknown_pairs page.rows (length t.alternatives) ≡ pairs_among (length t.alternatives)

-- ---- what is known of the relation

-- What is known to hold does by every compatible function, what is strictly so doesn't hold the other way, and there is no
-- strict cycle, so each alternative has a level.
pub record KnownOf (t : DecisionTable) (list : List Statement) (n : ℕ) (xs : List Answer) : Type 0 where
  pub sound : (a b : ℕ) → holds (known (cell_rows n xs)) a b ≡ true → IsNecessarilyPreferred t list a b
  pub strict : (a b : ℕ) → IsAbove (known (cell_rows n xs)) a b → IsNecessarilyPreferred t list b a → ⊥
  pub acyclic : IsAcyclic (known (cell_rows n xs))

abbrev pub KnownIsTrue : Type 0
KnownIsTrue = (t : DecisionTable) (list : List Statement) (xs : List Answer) (n : ℕ)
    → AreTrueAnswers t list xs → KnownOf t list n xs

-- some function is compatible, and each cell of two of the alternatives says something
pub record IsWholeRelation (t : DecisionTable) (list : List Statement) (n : ℕ) (xs : List Answer) : Type 0 where
  pub consistent : IsConsistent t list
  pub known : (a b : ℕ) → a < n → b < n → cell_at n xs a b ≢ cells.Unknown

-- Then what is known is the necessary preference, and paths along its arrows lead from what is necessarily preferred to what it
-- is strictly preferred to.
pub record WholeOf (t : DecisionTable) (list : List Statement) (n : ℕ) (xs : List Answer) : Type 0 where
  pub relation : (a b : ℕ) → a < n → b < n
      → (holds (known (cell_rows n xs)) a b ≡ true) ↔ IsNecessarilyPreferred t list a b
  pub transitive : IsTransitive (known (cell_rows n xs))
  pub arrows : (a b : ℕ) → a < n → b < n → Path (IsArrow (known (cell_rows n xs))) a b
      ↔ (IsNecessarilyPreferred t list a b × (IsNecessarilyPreferred t list b a → ⊥))

abbrev pub WholeIsTheRelation : Type 0
WholeIsTheRelation = (t : DecisionTable) (list : List Statement) (xs : List Answer) (n : ℕ)
    → AreTrueAnswers t list xs → IsWholeRelation t list n xs → WholeOf t list n xs
