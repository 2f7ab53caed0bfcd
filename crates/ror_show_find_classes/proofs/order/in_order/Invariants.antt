use Rattle.std.proofs.Common.{◌≡◌}
use Rattle.std.specs.List.{flat_map, range_with_len}
use Rattle.ror_show_find_classes.specs.Rows.{places_of}
use Rattle.ror_show_find_classes.proofs.order.in_order.Given as goal

abbrev pub invariant-loop-a : goal.invariant-loop-a
invariant-loop-a l = l.made.items ≡ flat_map (places_of l.kept l.places) (range_with_len 0 l.a)
