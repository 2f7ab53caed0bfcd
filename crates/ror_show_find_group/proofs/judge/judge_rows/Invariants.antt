use Rattle.std.proofs.Common.{◌≡◌, map}
use Rattle.std.specs.List.{range_with_len}
use Rattle.ror_show_find_group.specs.Judges.{judge_row}
use Rattle.ror_show_find_group.proofs.judge.judge_rows.Given as goal

abbrev pub invariant-loop-a : goal.invariant-loop-a
invariant-loop-a l = l.made.items ≡ map (judge_row l.size l.entries l.fn.judge) (range_with_len 0 l.a)
