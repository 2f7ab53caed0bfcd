use Rattle.std.proofs.Common.{◌≡◌, ◌++◌}
use Rattle.std.specs.List.{flat_map, range_with_len}
use Rattle.ror_show_find_whatif.specs.Shifts.{pair_of}
use Rattle.ror_show_find_whatif.proofs.pairs.push_from.Given as goal

abbrev pub invariant-loop-b : goal.invariant-loop-b
invariant-loop-b l = l.made.items ≡ l.fn.made.items ++ flat_map (pair_of l.before l.after l.shift l.fn.a) (range_with_len 0 l.b)
