use Rattle.std.proofs.Common.{◌≡◌}
use Rattle.std.specs.List.{flat_map, range_with_len}
use Rattle.ror_show_find_whatif.specs.Shifts.{pairs_from}
use Rattle.ror_show_find_whatif.proofs.pairs.shifted_pairs.Given as goal

abbrev pub invariant-loop-a : goal.invariant-loop-a
invariant-loop-a l = l.made.items ≡ flat_map (pairs_from l.before l.after l.shift) (range_with_len 0 l.a)
