use Rattle.std.proofs.Common.{◌≡◌, map}
use Rattle.std.specs.List.{range_with_len}
use Rattle.ror_show_find_group.specs.Grounds.{group_ground_of}
use Rattle.ror_show_find_group.specs.Judges.{judge_at}
use Rattle.ror_show_find_group.proofs.judge.judges_of.Given as goal

abbrev pub invariant-loop-judge : goal.invariant-loop-judge
invariant-loop-judge l = l.judges.items ≡ map (judge_at (group_ground_of l.ground)) (range_with_len 0 l.judge)
