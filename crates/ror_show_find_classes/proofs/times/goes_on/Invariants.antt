use Rattle.std.proofs.Common.{◌≡◌}
use Rattle.ror_show_find_classes.specs.Times.{answers_at, revises_at, goes_on}
use Rattle.ror_show_find_classes.proofs.times.goes_on.Given as goal

abbrev pub invariant-places : goal.invariant-places
invariant-places l = goes_on (answers_at l.ground.session.now l.ground.kept.now l.desk) (revises_at l.ground.session.now l.ground.kept.now l.desk) l.end ≡ goes_on (answers_at l.ground.session.now l.ground.kept.now l.desk) (revises_at l.ground.session.now l.ground.kept.now l.desk) l.place

abbrev pub decreases-places : goal.decreases-places
decreases-places l = l.place
