use Rattle.std.proofs.Common.{◌≡◌, take}
use Rattle.std.specs.List.{flat_map}
use Rattle.ror_show_find_classes.specs.Values.{interval_at}
use Rattle.ror_show_find_classes.proofs.value.intervals_at.Given as goal

abbrev pub invariant-places : goal.invariant-places
invariant-places l = l.made.items ≡ flat_map (interval_at l.classes l.kept) (take l.place-index l.places)
