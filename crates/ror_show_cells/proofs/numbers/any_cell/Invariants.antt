use Rattle.std.proofs.Common.{◌≡◌, drop}
use Rattle.std.specs.List.{list_any}
use Rattle.ror_show_cells.specs.Numbers.{passes}
use Rattle.ror_show_cells.proofs.numbers.any_cell.Given as goal

abbrev pub invariant-loop-place : goal.invariant-loop-place
invariant-loop-place l = list_any (passes l.test) (drop l.place l.row) ≡ list_any (passes l.test) (drop l.from l.row)
