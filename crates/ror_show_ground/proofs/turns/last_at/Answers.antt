-- The line just before isn't one.
use Rattle.std.proofs.Common.{◌≡◌, suc, ◌-◌, ◌<◌, false, ◌∙◌, arith, rules}
use Rattle.ror_show_ground.specs.Turns.{counts_at}
use Rattle.ror_show_ground.proofs.TurnLemmas.{last_step}
use Rattle.ror_show_ground.proofs.turns.last_at.Goals as goal

pub places-preserved : goal.places-preserved
places-preserved c =
    let below : 0 < c.places.place = search rules in
    let next : c.places.place ≡ suc (c.places.place - 1) = omega arith in
    let fails : counts_at c.args.session.now c.args.kept.now c.args.desk (c.places.place - 1) ≡ false = search rules in
    c.places.invariant ∙ last_step (counts_at c.args.session.now c.args.kept.now c.args.desk) c.places.place (c.places.place - 1) next fails
