use Rattle.std.proofs.lemmas.Result.{on_ok_weaker}
use Rattle.std.proofs.Common.{◌≡◌, ◌++◌, rules}
use Rattle.ror_show_kit.proofs.Pieces.{three_more}
use Rattle.ror_show_text_changes.specs.ClassText.{legend, settled_text, found_text}
use Rattle.ror_show_text_changes.proofs.classes.write_rows.Goals as goal

pub returns : goal.returns
returns c =
    let before = c.args.before.now in
    let now = c.args.now.now in
    let begun : c.extend_from_slice.new.self.items ≡ c.args.text.now.items ++ legend = search rules in
    on_ok_weaker c.write_found.result
    (λ last. three_more legend (settled_text before now) (found_text c.args.table.now c.args.change.now) c.args.text.now.items c.extend_from_slice.new.self.items c.write_settled.new.text.items c.write_found.new.text.items begun c.in_ok-write_settled.ensures last)
    c.write_found.ensures
