use Rattle.std.proofs.Common.{◌≡◌, ℕ, List, ◌++◌, ap, ◌∙◌, rules}
use Rattle.std.proofs.lemmas.Result.{on_ok_weaker}
use Rattle.ror_show_kit.proofs.Pieces.{three_more}
use Rattle.ror_show_ground.specs.Grounds.{ground_of}
use Rattle.ror_show_text_roll.specs.Page.{taken_rows, refused_rows, asked_rows}
use Rattle.ror_show_text_roll.proofs.page.write_rest.Goals as goal

pub returns : goal.returns
returns c =
    let g = ground_of c.args.ground.now in
    let roll = c.args.roll.now in
    let taken : c.write_all_taken.new.text.items ≡ c.args.text.now.items ++ taken_rows (ground_of c.args.ground.now) c.args.roll.now.taken_back = search rules in
    let refused : c.write_all_refused.new.text.items ≡ c.write_all_taken.new.text.items ++ refused_rows (ground_of c.args.ground.now) c.args.roll.now.refused = search rules in
    on_ok_weaker c.write_all_asked.result
    (λ last. three_more (taken_rows g roll.taken_back) (refused_rows g roll.refused) (asked_rows g roll.asked_of_nothing) c.args.text.now.items c.write_all_taken.new.text.items c.write_all_refused.new.text.items c.write_all_asked.new.text.items taken refused (last ∙ ap (λ (xs : List ℕ). c.write_all_refused.new.text.items ++ asked_rows g xs) c.as_slice-3.ensures))
    c.write_all_asked.ensures
