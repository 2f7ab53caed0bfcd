-- What stands on the page of a relation.
use Rattle.std.specs.Prelude.{◌≡◌, Bool, List, length, map}
use Rattle.ror_table.specs.Table.{DecisionTable}
use Rattle.ror_proof.specs.declared.answer.Answer.{Answer}
use Rattle.ror_show_find_relation.specs.Relations.{Square, decided_pairs}
use Rattle.ror_show_find_relation.specs.Arrows.{arrows}
use Rattle.ror_show_find_relation.specs.Levels.{AreLevels}
use Rattle.ror_show_find_relation.specs.declared.cell.Cell.{Cell}
use Rattle.ror_show_find_relation.specs.declared.page.RelationPage.{RelationPage}
use Rattle.ror_show_find_relation.specs.Cells.{cell_rows, is_over, is_open}
use Rattle.ror_show_find_relation.specs.Dominance.{dominance}

-- the marks of cells, row by row
abbrev pub marks : (Cell → Bool) → List (List Cell) → Square
marks mark rows = map (map mark) rows

-- what is known of the relation: which alternative is at least as good as which, by every function
abbrev pub known : List (List Cell) → Square
known rows = marks is_over rows

-- The page shows the cell of each two alternatives, the levels and the arrows of what is known, and of how many pairs of
-- different alternatives one is known to be at least as good as the other, how many are open, and of how many one dominates
-- the other.
pub record IsPageOfCells (t : DecisionTable) (cells : List (List Cell)) (page : RelationPage) : Type 0 where
  pub rows : page.rows ≡ cells
  pub levels : AreLevels (known page.rows) page.levels
  pub arrows : page.arrows ≡ arrows (known page.rows)
  pub decided : page.counts.decided ≡ decided_pairs (known page.rows)
  pub open_pairs : page.counts.open ≡ decided_pairs (marks is_open page.rows)
  pub by_dominance : page.counts.by_dominance ≡ decided_pairs (dominance t)

-- those of the answers to all questions on a relation of the table's alternatives
abbrev pub IsRelationPage : DecisionTable → List Answer → RelationPage → Type 0
IsRelationPage t xs page = IsPageOfCells t (cell_rows (length t.alternatives) xs) page
