use Rattle.std.proofs.lemmas.Result.{on_ok_weaker}
use Rattle.std.proofs.Common.{◌≡◌, ◌++◌, rules}
use Rattle.std.specs.Prelude.{OnOk, codes}
use Rattle.ror_show_text_relation.specs.Text.{levels_text, pairs_below}
use Rattle.ror_show_text_group.specs.Text.{arrows_head}
use Rattle.ror_show_kit.proofs.Pieces.{three_more}
use Rattle.ror_show_text_group.proofs.page.write_common.Goals as goal

pub returns : goal.returns
returns c =
    let t = c.args.table.now in
    let found = c.args.found.now in
    let levels : c.write_levels.new.text.items ≡ c.extend_from_slice.new.self.items ++ levels_text c.args.table.now c.args.found.now.common = search rules in
    let arrows : OnOk c.write_pairs.result (c.write_pairs.new.text.items ≡ c.write_levels.new.text.items ++ pairs_below c.args.table.now arrows_head c.args.found.now.common.arrows) = search rules in
    on_ok_weaker c.write_pairs.result
    (λ last. three_more (codes "\n  what holds for every judge\n") (levels_text t found.common) (pairs_below t arrows_head found.common.arrows) c.args.text.now.items c.extend_from_slice.new.self.items c.write_levels.new.text.items c.write_pairs.new.text.items c.in_ok-extend_from_slice.ensures.items levels last)
    arrows
