use Rattle.std.proofs.Common.{◌≡◌, map}
use Rattle.std.specs.List.{range_with_len}
use Rattle.ror_show_find_group.specs.Cells.{group_row}
use Rattle.ror_show_find_group.proofs.page.group_rows.Given as goal

abbrev pub invariant-loop-a : goal.invariant-loop-a
invariant-loop-a l = l.made.items ≡ map (group_row l.judges l.size) (range_with_len 0 l.a)
