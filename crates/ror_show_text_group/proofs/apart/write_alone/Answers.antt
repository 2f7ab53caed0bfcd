use Rattle.std.proofs.lemmas.Result.{on_ok_weaker}
use Rattle.std.proofs.Common.{◌≡◌, ◌++◌, rules}
use Rattle.std.specs.Prelude.{length}
use Rattle.std.specs.List.{flat_map, range_with_len}
use Rattle.ror_show_text_group.specs.Apart.{alone_head, none_text, alone_at}
use Rattle.ror_show_kit.proofs.Pieces.{three_more}
use Rattle.ror_show_text_group.proofs.apart.write_alone.Goals as goal

pub returns : goal.returns
returns c =
    let t = c.args.table.now in
    let d = c.args.desks.now in
    let xs = c.args.alone.now in
    let head : c.extend_from_slice.new.self.items ≡ c.args.text.now.items ++ alone_head = search rules in
    on_ok_weaker c.write_each.result
    (λ last. three_more alone_head (none_text xs) (flat_map (alone_at t d xs) (range_with_len 0 (length xs))) c.args.text.now.items c.extend_from_slice.new.self.items c.write_none.new.text.items c.write_each.new.text.items head c.in_ok-write_none.ensures last)
    c.write_each.ensures
