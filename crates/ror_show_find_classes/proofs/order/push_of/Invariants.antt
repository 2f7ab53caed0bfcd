use Rattle.std.proofs.Common.{◌≡◌, ◌++◌, take}
use Rattle.std.specs.List.{flat_map}
use Rattle.ror_show_find_classes.specs.Rows.{if_of}
use Rattle.ror_show_find_classes.proofs.order.push_of.Given as goal

abbrev pub invariant-places : goal.invariant-places
invariant-places l = l.made.items ≡ l.initial.made.items ++ flat_map (if_of l.kept l.a) (take l.place-index l.places)
