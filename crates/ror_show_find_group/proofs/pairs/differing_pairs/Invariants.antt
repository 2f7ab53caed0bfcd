use Rattle.std.proofs.Common.{◌≡◌}
use Rattle.std.specs.List.{flat_map, range_with_len}
use Rattle.ror_show_find_group.specs.Pairs.{differing_from}
use Rattle.ror_show_find_group.proofs.pairs.differing_pairs.Given as goal

abbrev pub invariant-loop-a : goal.invariant-loop-a
invariant-loop-a l = l.made.items ≡ flat_map (differing_from l.rows l.size) (range_with_len 0 l.a)
