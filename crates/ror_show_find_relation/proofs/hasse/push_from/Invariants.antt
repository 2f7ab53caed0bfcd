use Rattle.std.proofs.Common.{◌≡◌, ◌++◌}
use Rattle.std.specs.List.{flat_map, range_with_len}
use Rattle.ror_show_find_relation.specs.Arrows.{arrow_of}
use Rattle.ror_show_find_relation.proofs.hasse.push_from.Given as goal

abbrev pub invariant-loop-b : goal.invariant-loop-b
invariant-loop-b l = l.made.items ≡ l.fn.made.items ++ flat_map (arrow_of l.relation l.fn.a) (range_with_len 0 l.b)
