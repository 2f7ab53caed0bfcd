use Rattle.std.proofs.Common.{◌≡◌}
use Rattle.std.specs.List.{flat_map, range_with_len}
use Rattle.ror_check.specs.Repair.{numbers_of}
use Rattle.ror_show_find_reasons.specs.Lines.{dropped_if}
use Rattle.ror_show_find_reasons.proofs.drops.dropped_places.Given as goal

abbrev pub invariant-loop-k : goal.invariant-loop-k
invariant-loop-k l = l.places.items ≡ flat_map (dropped_if (numbers_of l.dropped) l.list) (range_with_len 0 l.k)
