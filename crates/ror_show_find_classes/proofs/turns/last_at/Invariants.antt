use Rattle.std.proofs.Common.{◌≡◌}
use Rattle.ror_show_ground.specs.Turns.{last_below}
use Rattle.ror_show_find_classes.specs.TimeTurns.{is_at}
use Rattle.ror_show_find_classes.proofs.turns.last_at.Given as goal

abbrev pub invariant-places : goal.invariant-places
invariant-places l = last_below (is_at l.times l.desk) l.end ≡ last_below (is_at l.times l.desk) l.place

abbrev pub decreases-places : goal.decreases-places
decreases-places l = l.place
