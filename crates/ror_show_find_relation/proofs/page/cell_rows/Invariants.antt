use Rattle.std.proofs.Common.{◌≡◌, map}
use Rattle.std.specs.List.{range_with_len}
use Rattle.ror_show_find_relation.specs.Cells.{cells_from}
use Rattle.ror_show_find_relation.proofs.page.cell_rows.Given as goal

abbrev pub invariant-loop-a : goal.invariant-loop-a
invariant-loop-a l = l.made.items ≡ map (cells_from l.size l.answers) (range_with_len 0 l.a)
