use Rattle.std.proofs.lemmas.Result.{on_ok_weaker}
use Rattle.ror_show_kit.proofs.Pieces.{three_more}
use Rattle.ror_show_text_whatif.specs.Lists.{some_pairs, won_head, stronger_head, unknown_head}
use Rattle.ror_show_text_whatif.proofs.Joining.{pairs_more}
use Rattle.ror_show_text_whatif.proofs.lists.write_gains.Goals as goal

pub returns : goal.returns
returns c =
    let t = c.args.table.now in
    let f = c.args.pairs.now in
    let old = c.args.text.now.items in
    let won = pairs_more t c.won_head.result.now won_head c.as_slice.result.now f.won old c.write_some_pairs.new.text.items c.won_head.ensures c.as_slice.ensures c.in_ok-write_some_pairs.ensures in
    let stronger = pairs_more t c.stronger_head.result.now stronger_head c.as_slice-2.result.now f.stronger c.write_some_pairs.new.text.items c.write_some_pairs-2.new.text.items c.stronger_head.ensures c.as_slice-2.ensures c.in_ok-write_some_pairs-2.ensures in
    on_ok_weaker c.write_some_pairs-3.result
    (λ last. three_more (some_pairs t won_head f.won) (some_pairs t stronger_head f.stronger) (some_pairs t unknown_head f.unknown) old c.write_some_pairs.new.text.items c.write_some_pairs-2.new.text.items c.write_some_pairs-3.new.text.items won stronger
    (pairs_more t c.unknown_head.result.now unknown_head c.as_slice-3.result.now f.unknown c.write_some_pairs-2.new.text.items c.write_some_pairs-3.new.text.items c.unknown_head.ensures c.as_slice-3.ensures last))
    c.write_some_pairs-3.ensures
