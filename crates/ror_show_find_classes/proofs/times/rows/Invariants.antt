use Rattle.std.proofs.Common.{◌≡◌, ◌-◌, ◌++◌, length}
use Rattle.std.specs.List.{range_with_len}
use Rattle.ror_show_find_classes.specs.Times.{answers_at, revises_at, run, rows}
use Rattle.ror_show_find_classes.proofs.times.rows.Given as goal

abbrev pub invariant-places : goal.invariant-places
invariant-places l = rows l.ground.session.now l.ground.kept.now l.first l.desk ≡ l.made.items ++ run (answers_at l.ground.session.now l.ground.kept.now l.desk) (revises_at l.ground.session.now l.ground.kept.now l.desk) (range_with_len l.place (length l.ground.kept.now - l.place))

abbrev pub decreases-places : goal.decreases-places
decreases-places l = length l.ground.kept.now - l.place
