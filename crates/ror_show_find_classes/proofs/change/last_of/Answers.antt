-- The row just before isn't one.
use Rattle.std.proofs.Common.{◌≡◌, suc, ◌-◌, ◌<◌, false, ◌∙◌, arith, rules}
use Rattle.ror_show_ground.proofs.TurnLemmas.{last_step}
use Rattle.ror_show_find_classes.specs.Changes.{is_row_of}
use Rattle.ror_show_find_classes.proofs.change.last_of.Goals as goal

pub places-preserved : goal.places-preserved
places-preserved c =
    let below : 0 < c.places.place = search rules in
    let next : c.places.place ≡ suc (c.places.place - 1) = omega arith in
    let fails : is_row_of c.args.rows.now c.args.a (c.places.place - 1) ≡ false = search rules in
    c.places.invariant ∙ last_step (is_row_of c.args.rows.now c.args.a) c.places.place (c.places.place - 1) next fails
