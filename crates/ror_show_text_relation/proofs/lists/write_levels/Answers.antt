use Rattle.std.specs.Prelude.{OnOk}
use Rattle.std.proofs.lemmas.Result.{on_ok_weaker}
use Rattle.std.proofs.Common.{◌≡◌, ◌++◌, None, length, rules}
use Rattle.std.specs.List.{flat_map, range_with_len}
use Rattle.ror_show_text_relation.specs.Text.{levels_head, some_level_text, level_text, apart_text}
use Rattle.ror_show_kit.proofs.Pieces.{four_more}
use Rattle.ror_show_text_relation.proofs.lists.write_levels.Goals as goal

pub returns : goal.returns
returns c =
    let t = c.args.table.now in
    let page = c.args.page.now in
    let ended : OnOk c.write_apart.result (c.write_apart.new.text.items ≡ c.write_level.new.text.items ++ apart_text c.args.table.now c.args.page.now.rows) = search rules in
    on_ok_weaker c.write_apart.result
    (λ last. four_more levels_head (flat_map (some_level_text t page) (range_with_len 0 (length t.alternatives))) (level_text t page None) (apart_text t page.rows) c.args.text.now.items c.extend_from_slice.new.self.items c.write_all_levels.new.text.items c.write_level.new.text.items c.write_apart.new.text.items c.in_ok-extend_from_slice.ensures.items c.in_ok-write_all_levels.ensures c.in_ok-write_level.ensures last)
    ended
