use Rattle.std.proofs.Common.{◌≡◌, List, ◌++◌, ap, ◌∙◌, rules}
use Rattle.std.proofs.lemmas.Result.{on_ok_weaker}
use Rattle.ror_show_kit.proofs.Pieces.{three_more}
use Rattle.ror_show_find_roll.specs.declared.roll.Gone.{Gone}
use Rattle.ror_show_ground.specs.Grounds.{ground_of}
use Rattle.ror_show_text_roll.specs.Page.{head_text, entries_text, gone_rows}
use Rattle.ror_show_text_roll.proofs.page.write_standing.Goals as goal

pub returns : goal.returns
returns c =
    let g = ground_of c.args.ground.now in
    let roll = c.args.roll.now in
    let entries : c.write_entries.new.text.items ≡ c.write_head.new.text.items ++ entries_text (ground_of c.args.ground.now) c.args.roll.now.entries = search rules in
    on_ok_weaker c.write_all_gone.result
    (λ last. three_more (head_text c.args.desk.now c.args.line) (entries_text g roll.entries) (gone_rows g roll.gone) c.args.text.now.items c.write_head.new.text.items c.write_entries.new.text.items c.write_all_gone.new.text.items c.in_ok-write_head.ensures entries (last ∙ ap (λ (xs : List Gone). c.write_entries.new.text.items ++ gone_rows g xs) c.as_slice-2.ensures))
    c.write_all_gone.ensures
