use Rattle.std.proofs.Common.{◌≡◌, map}
use Rattle.std.specs.List.{range_with_len}
use Rattle.ror_show_find_relation.specs.Cells.{cell_at}
use Rattle.ror_show_find_relation.proofs.page.cells_from.Given as goal

abbrev pub invariant-loop-b : goal.invariant-loop-b
invariant-loop-b l = l.made.items ≡ map (cell_at l.size l.answers l.a) (range_with_len 0 l.b)
