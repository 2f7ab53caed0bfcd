use Rattle.std.proofs.Common.{◌≡◌, ◌++◌}
use Rattle.std.specs.List.{flat_map, range_with_len}
use Rattle.ror_show_find_proofs.specs.Places.{part_place}
use Rattle.ror_show_find_proofs.proofs.function_places.push_parts.Given as goal

abbrev pub invariant-loop-j : goal.invariant-loop-j
invariant-loop-j l = l.places.items ≡ l.fn.places.items ++ flat_map (part_place l.answers l.fn.k) (range_with_len 0 l.j)
