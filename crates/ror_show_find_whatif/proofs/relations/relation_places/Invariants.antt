use Rattle.std.proofs.Common.{◌≡◌}
use Rattle.std.specs.List.{flat_map, range_with_len}
use Rattle.ror_show_ground.specs.Lines.{place_if}
use Rattle.ror_show_find_whatif.specs.Findings.{has_relation}
use Rattle.ror_show_find_whatif.proofs.relations.relation_places.Given as goal

abbrev pub invariant-loop-n : goal.invariant-loop-n
invariant-loop-n l = l.places.items ≡ flat_map (place_if (has_relation l.session) l.kept) (range_with_len 0 l.n)
