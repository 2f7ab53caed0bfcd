use Rattle.std.proofs.Common.{◌≡◌}
use Rattle.std.specs.List.{flat_map, range_with_len}
use Rattle.ror_show_find_proofs.specs.Places.{places_of}
use Rattle.ror_show_find_proofs.proofs.function_places.places.Given as goal

abbrev pub invariant-loop-k : goal.invariant-loop-k
invariant-loop-k l = l.places.items ≡ flat_map (places_of l.answers) (range_with_len 0 l.k)
