-- Of how many pairs of alternatives the judges who are heard say what.
use Rattle.std.specs.Prelude.{ℕ, zero, suc, ◌+◌, Bool, true, false, List}
use Rattle.ror_show_find_relation.specs.Relations.{count_below}
use Rattle.ror_show_find_group.specs.declared.cell.GroupCell.{GroupCell}
use Rattle.ror_show_find_group.specs.declared.cell.GroupCell.TheVariants as cells
use Rattle.ror_show_find_group.specs.declared.counts.Stand.{Stand}
use Rattle.ror_show_find_group.specs.declared.counts.Stand.TheVariants.{Decided, Open, Partly, Differ, Unknown}
use Rattle.ror_show_find_group.specs.Cells.{group_cell_in}

-- what they say by a cell of different alternatives
abbrev pub stand_of : GroupCell → Stand
stand_of cells.AlwaysBetter = Decided
stand_of cells.AtLeastAsGood = Decided
stand_of cells.AlwaysEqual = Decided
stand_of cells.AtMostAsGood = Decided
stand_of cells.NeverAsGood = Decided
stand_of cells.Open = Open
stand_of cells.SomeOver = Partly
stand_of cells.SomeUnder = Partly
stand_of cells.BothWays = Partly
stand_of cells.Differ = Differ
stand_of cells.Itself = Unknown
stand_of cells.Unknown = Unknown

abbrev pub is_same : Stand → Stand → Bool
is_same Decided Decided = true
is_same Open Open = true
is_same Partly Partly = true
is_same Differ Differ = true
is_same Unknown Unknown = true
is_same _ _ = false

abbrev pub stands : Stand → List (List GroupCell) → ℕ → ℕ → Bool
stands stand rows a b = is_same stand (stand_of (group_cell_in rows a b))

-- of how many pairs of the first n alternatives
abbrev pub pairs_standing : Stand → List (List GroupCell) → ℕ → ℕ
pairs_standing stand rows zero = 0
pairs_standing stand rows (suc n) = count_below (stands stand rows n) n + pairs_standing stand rows n
