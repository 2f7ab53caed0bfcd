use Rattle.std.proofs.Common.{◌≡◌, ◌++◌}
use Rattle.std.specs.List.{flat_map, range_with_len}
use Rattle.ror_relation.specs.Pairs.{pair_of_different}
use Rattle.ror_relation.proofs.pairs.push_pairs.Given as goal

abbrev pub invariant-loop-b : goal.invariant-loop-b
invariant-loop-b l = l.made.items ≡ l.fn.made.items ++ flat_map (pair_of_different l.fn.a) (range_with_len 0 l.b)
