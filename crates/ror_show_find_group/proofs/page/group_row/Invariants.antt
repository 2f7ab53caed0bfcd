use Rattle.std.proofs.Common.{◌≡◌, map}
use Rattle.std.specs.List.{range_with_len}
use Rattle.ror_show_find_group.specs.Cells.{group_cell}
use Rattle.ror_show_find_group.proofs.page.group_row.Given as goal

abbrev pub invariant-loop-b : goal.invariant-loop-b
invariant-loop-b l = l.made.items ≡ map (group_cell l.judges l.fn.a) (range_with_len 0 l.b)
