-- One line more.
use Rattle.std.proofs.Common.{◌≡◌, ◌++◌, ◌<◌, false, length, rules}
use Rattle.ror_show_find_classes.specs.Times.{answers_at, revises_at, rows, if_asked}
use Rattle.ror_show_find_classes.proofs.RunLemmas.{run_more}
use Rattle.ror_show_find_classes.proofs.times.rows.Goals as goal

pub places-preserved : goal.places-preserved
places-preserved c =
    let below : c.places.place < length c.args.ground.now.kept.now = search rules in
    let no_change : revises_at c.args.ground.now.session.now c.args.ground.now.kept.now c.args.desk c.places.place ≡ false = search rules in
    let pushed : c.push_asked.new.made.items ≡ c.places.made.items ++ if_asked (answers_at c.args.ground.now.session.now c.args.ground.now.kept.now c.args.desk) c.places.place = search rules in
    run_more (answers_at c.args.ground.now.session.now c.args.ground.now.kept.now c.args.desk) (revises_at c.args.ground.now.session.now c.args.ground.now.kept.now c.args.desk) c.places.place (length c.args.ground.now.kept.now) (rows c.args.ground.now.session.now c.args.ground.now.kept.now c.args.first c.args.desk) c.places.made.items c.push_asked.new.made.items below no_change pushed c.places.invariant
