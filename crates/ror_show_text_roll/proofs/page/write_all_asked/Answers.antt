-- One row more, and all of them.
use Rattle.std.proofs.Common.{◌≡◌, ℕ, List, ◌++◌, ap, ◌∙◌, append_assoc, length, get_or, refl, rules}
use Rattle.std.specs.Prelude.{codes}
use Rattle.std.specs.List.{flat_map}
use Rattle.ror_show_ground.specs.Grounds.{ground_of}
use Rattle.ror_show_text_roll.specs.Page.{title, asked_row}
use Rattle.ror_show_find_roll.proofs.Loops.{each_at, each_done}
use Rattle.ror_show_text_roll.proofs.page.write_all_asked.Goals as goal

pub places-preserved : goal.places-preserved
places-preserved c =
    let rows = asked_row (ground_of c.args.ground.now) in
    let pushed : c.write_asked_row.new.text.items ≡ c.places.text.items ++ asked_row (ground_of c.args.ground.now) (get_or c.args.places.now c.places.place-index 0) = search rules in
    each_at rows (flat_map rows) (λ x xs. refl) c.places.text.items c.write_asked_row.new.text.items (c.write_title.new.text.items ++ flat_map rows c.args.places.now) c.args.places.now c.places.place-index 0 c.places-test.true pushed c.places.invariant

pub returns : goal.returns
returns c =
    let rows = asked_row (ground_of c.args.ground.now) in
    let done : c.places.text.items ≡ c.write_title.new.text.items ++ flat_map (asked_row (ground_of c.args.ground.now)) c.args.places.now = each_done (flat_map rows) refl c.places.text.items (c.write_title.new.text.items ++ flat_map rows c.args.places.now) c.args.places.now c.places.place-index c.places-test.false c.places.invariant in
    let titled : c.write_title.new.text.items ≡ c.args.text.now.items ++ title (codes "asked when nothing stood") (length c.args.places.now) = search rules in
    done ∙ ap (λ (xs : List ℕ). xs ++ flat_map rows c.args.places.now) titled ∙ append_assoc c.args.text.now.items (title (codes "asked when nothing stood") (length c.args.places.now)) (flat_map rows c.args.places.now)
