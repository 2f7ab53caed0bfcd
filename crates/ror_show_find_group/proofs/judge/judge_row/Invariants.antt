use Rattle.std.proofs.Common.{◌≡◌, map}
use Rattle.std.specs.List.{range_with_len}
use Rattle.ror_show_find_group.specs.Judges.{judge_cell}
use Rattle.ror_show_find_group.proofs.judge.judge_row.Given as goal

abbrev pub invariant-loop-b : goal.invariant-loop-b
invariant-loop-b l = l.made.items ≡ map (judge_cell l.size l.entries l.fn.judge l.fn.a) (range_with_len 0 l.b)
