-- What is found of a group's report.
use Rattle.std.specs.Prelude.{◌≡◌, List, length, map}
use Rattle.ror_show_find_relation.specs.Relations.{Square}
use Rattle.ror_show_find_relation.specs.Pages.{IsPageOfCells}
use Rattle.ror_show_find_relation.specs.declared.cell.Cell.{Cell}
use Rattle.ror_show_find_relation.specs.declared.cell.Cell.TheVariants as relation
use Rattle.ror_show_find_group.specs.declared.cell.GroupCell.{GroupCell}
use Rattle.ror_show_find_group.specs.declared.cell.GroupCell.TheVariants as cells
use Rattle.ror_show_find_group.specs.declared.page.GroupFound.{GroupFound}
use Rattle.ror_show_find_group.specs.Grounds.{GroupGround}
use Rattle.ror_show_find_group.specs.Judges.{judges_of}
use Rattle.ror_show_find_group.specs.Cells.{group_rows, is_over}
use Rattle.ror_show_find_group.specs.Pairs.{differing_pairs, alone_pairs}

-- what is known of all judges who are heard: which alternative is at least as good as which, by every function of each
abbrev pub known : List (List GroupCell) → Square
known rows = map (map is_over) rows

-- what a cell says of every judge, as a cell of a relation, which says nothing where that isn't the same of every one
abbrev pub common_cell : GroupCell → Cell
common_cell cells.Itself = relation.Itself
common_cell cells.AlwaysBetter = relation.AlwaysBetter
common_cell cells.AtLeastAsGood = relation.AtLeastAsGood
common_cell cells.AlwaysEqual = relation.AlwaysEqual
common_cell cells.Open = relation.Open
common_cell cells.AtMostAsGood = relation.AtMostAsGood
common_cell cells.NeverAsGood = relation.NeverAsGood
common_cell _ = relation.Unknown

abbrev pub common_rows : List (List GroupCell) → List (List Cell)
common_rows rows = map (map common_cell) rows

-- Each judge; the cell of each two alternatives; what holds for all, with its levels and arrows; the pairs on which judges differ; and those
-- of which one judge alone concludes something.
pub record IsGroupFound (g : GroupGround) (found : GroupFound) : Type 0 where
  pub judges : found.judges ≡ judges_of g
  pub rows : found.rows ≡ group_rows found.judges (length g.table.alternatives)
  pub common : IsPageOfCells g.table (common_rows found.rows) found.common
  pub differing : found.differing ≡ differing_pairs found.rows (length g.table.alternatives)
  pub alone : found.alone ≡ alone_pairs found.judges (length g.table.alternatives)
