use Rattle.std.proofs.Common.{◌≡◌}
use Rattle.std.specs.List.{flat_map, range_with_len}
use Rattle.ror_show_find_proofs.specs.Linear.{linear_if}
use Rattle.ror_show_find_proofs.proofs.linear.linear_by.Given as goal

abbrev pub invariant-loop-i : goal.invariant-loop-i
invariant-loop-i l = l.used.items ≡ flat_map (linear_if l.table l.forms l.multipliers) (range_with_len 0 l.i)
