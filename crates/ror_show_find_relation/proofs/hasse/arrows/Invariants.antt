use Rattle.std.proofs.Common.{◌≡◌}
use Rattle.std.specs.List.{flat_map, range_with_len}
use Rattle.ror_show_find_relation.specs.Arrows.{arrows_from}
use Rattle.ror_show_find_relation.proofs.hasse.arrows.Given as goal

abbrev pub invariant-loop-a : goal.invariant-loop-a
invariant-loop-a l = l.made.items ≡ flat_map (arrows_from l.relation) (range_with_len 0 l.a)
