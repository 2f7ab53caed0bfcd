-- One row more, and all of them.
use Rattle.std.proofs.Common.{◌≡◌, ℕ, List, ◌++◌, ap, ◌∙◌, append_assoc, length, get_or, refl, rules}
use Rattle.std.specs.Prelude.{codes}
use Rattle.std.specs.List.{flat_map}
use Rattle.ror_show_ground.specs.Grounds.{ground_of}
use Rattle.ror_show_text_roll.specs.Page.{title, taken_row}
use Rattle.ror_show_find_roll.proofs.Loops.{each_at, each_done}
use Rattle.ror_show_text_roll.proofs.page.write_all_taken.Goals as goal

pub taken-preserved : goal.taken-preserved
taken-preserved c =
    let rows = taken_row (ground_of c.args.ground.now) in
    let pushed : c.write_taken_row.new.text.items ≡ c.taken.text.items ++ taken_row (ground_of c.args.ground.now) (get_or c.args.taken_back.now c.taken.taken-index (record { taken = 0; by = 0 })) = search rules in
    each_at rows (flat_map rows) (λ x xs. refl) c.taken.text.items c.write_taken_row.new.text.items (c.write_title.new.text.items ++ flat_map rows c.args.taken_back.now) c.args.taken_back.now c.taken.taken-index (record { taken = 0; by = 0 }) c.taken-test.true pushed c.taken.invariant

pub returns : goal.returns
returns c =
    let rows = taken_row (ground_of c.args.ground.now) in
    let done : c.taken.text.items ≡ c.write_title.new.text.items ++ flat_map (taken_row (ground_of c.args.ground.now)) c.args.taken_back.now = each_done (flat_map rows) refl c.taken.text.items (c.write_title.new.text.items ++ flat_map rows c.args.taken_back.now) c.args.taken_back.now c.taken.taken-index c.taken-test.false c.taken.invariant in
    let titled : c.write_title.new.text.items ≡ c.args.text.now.items ++ title (codes "taken back") (length c.args.taken_back.now) = search rules in
    done ∙ ap (λ (xs : List ℕ). xs ++ flat_map rows c.args.taken_back.now) titled ∙ append_assoc c.args.text.now.items (title (codes "taken back") (length c.args.taken_back.now)) (flat_map rows c.args.taken_back.now)
