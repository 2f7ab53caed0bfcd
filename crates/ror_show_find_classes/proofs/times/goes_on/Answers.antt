-- The line just before is neither.
use Rattle.std.proofs.Common.{◌≡◌, suc, ◌-◌, ◌<◌, false, ◌∙◌, arith, rules}
use Rattle.ror_show_find_classes.specs.Times.{answers_at, revises_at}
use Rattle.ror_show_find_classes.proofs.RunLemmas.{goes_step}
use Rattle.ror_show_find_classes.proofs.times.goes_on.Goals as goal

pub places-preserved : goal.places-preserved
places-preserved c =
    let below : 0 < c.places.place = search rules in
    let next : c.places.place ≡ suc (c.places.place - 1) = omega arith in
    let no_change : revises_at c.args.ground.now.session.now c.args.ground.now.kept.now c.args.desk (c.places.place - 1) ≡ false = search rules in
    let no_answer : answers_at c.args.ground.now.session.now c.args.ground.now.kept.now c.args.desk (c.places.place - 1) ≡ false = search rules in
    c.places.invariant ∙ goes_step (answers_at c.args.ground.now.session.now c.args.ground.now.kept.now c.args.desk) (revises_at c.args.ground.now.session.now c.args.ground.now.kept.now c.args.desk) c.places.place (c.places.place - 1) next no_change no_answer
