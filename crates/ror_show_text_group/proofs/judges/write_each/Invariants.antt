use Rattle.std.proofs.Common.{◌≡◌, ◌++◌}
use Rattle.std.specs.List.{flat_map, range_with_len}
use Rattle.ror_show_text_group.specs.Judges.{judge_at}
use Rattle.ror_show_text_group.proofs.judges.write_each.Given as goal

abbrev pub invariant-loop-k : goal.invariant-loop-k
invariant-loop-k l = l.text.items ≡ l.fn.text.items ++ flat_map (judge_at l.desks l.judges l.fn.size l.fn.sort) (range_with_len 0 l.k)
