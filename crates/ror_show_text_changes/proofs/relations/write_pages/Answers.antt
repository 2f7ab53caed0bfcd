use Rattle.std.proofs.Common.{◌≡◌, ◌++◌, rules}
use Rattle.std.proofs.lemmas.Result.{on_ok_weaker}
use Rattle.ror_show_kit.proofs.Pieces.{two_more}
use Rattle.ror_show_text_changes.specs.Text.{legend, found_text}
use Rattle.ror_show_text_changes.proofs.relations.write_pages.Goals as goal

pub returns : goal.returns
returns c =
    let begun : c.extend_from_slice.new.self.items ≡ c.args.text.now.items ++ legend = search rules in
    on_ok_weaker c.write_found.result
    (λ last. two_more legend (found_text c.args.table.now c.args.change.now) c.args.text.now.items c.extend_from_slice.new.self.items c.write_found.new.text.items begun last)
    c.write_found.ensures
