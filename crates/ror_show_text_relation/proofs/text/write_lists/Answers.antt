use Rattle.std.proofs.lemmas.Result.{on_ok_weaker}
use Rattle.std.proofs.Common.{◌≡◌, ◌++◌, rules}
use Rattle.std.specs.Prelude.{OnOk}
use Rattle.ror_show_text_relation.specs.Text.{levels_text, arrows_text}
use Rattle.ror_show_kit.proofs.Pieces.{two_more}
use Rattle.ror_show_text_relation.proofs.text.write_lists.Goals as goal

pub returns : goal.returns
returns c =
    let t = c.args.table.now in
    let page = c.args.page.now in
    let arrows : OnOk c.write_arrows.result (c.write_arrows.new.text.items ≡ c.write_levels.new.text.items ++ arrows_text c.args.table.now c.args.page.now.arrows) = search rules in
    on_ok_weaker c.write_arrows.result
    (λ last. two_more (levels_text t page) (arrows_text t page.arrows) c.args.text.now.items c.write_levels.new.text.items c.write_arrows.new.text.items c.in_ok-write_levels.ensures last)
    arrows
