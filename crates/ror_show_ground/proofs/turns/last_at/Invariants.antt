use Rattle.std.proofs.Common.{◌≡◌}
use Rattle.ror_show_ground.specs.Turns.{counts_at, last_below}
use Rattle.ror_show_ground.proofs.turns.last_at.Given as goal

abbrev pub invariant-places : goal.invariant-places
invariant-places l = last_below (counts_at l.session l.kept l.desk) l.end ≡ last_below (counts_at l.session l.kept l.desk) l.place

abbrev pub decreases-places : goal.decreases-places
decreases-places l = l.place
