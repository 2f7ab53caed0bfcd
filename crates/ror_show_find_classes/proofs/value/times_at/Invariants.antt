use Rattle.std.proofs.Common.{◌≡◌, take}
use Rattle.std.specs.List.{flat_map}
use Rattle.ror_show_find_classes.specs.Values.{time_at}
use Rattle.ror_show_find_classes.proofs.value.times_at.Given as goal

abbrev pub invariant-starts : goal.invariant-starts
invariant-starts l = l.made.items ≡ flat_map (time_at l.ground.table.now l.ground.session.now l.ground.kept.now) (take l.place-index l.starts)
