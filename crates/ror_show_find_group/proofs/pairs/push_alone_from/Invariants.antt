use Rattle.std.proofs.Common.{◌≡◌, ◌++◌}
use Rattle.std.specs.List.{flat_map, range_with_len}
use Rattle.ror_show_find_group.specs.Pairs.{alone_pair}
use Rattle.ror_show_find_group.proofs.pairs.push_alone_from.Given as goal

abbrev pub invariant-loop-b : goal.invariant-loop-b
invariant-loop-b l = l.made.items ≡ l.fn.made.items ++ flat_map (alone_pair l.judges l.judge l.fn.a) (range_with_len 0 l.b)
