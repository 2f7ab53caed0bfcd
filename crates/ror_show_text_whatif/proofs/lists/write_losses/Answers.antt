use Rattle.std.proofs.lemmas.Result.{on_ok_weaker}
use Rattle.ror_show_kit.proofs.Pieces.{two_more}
use Rattle.ror_show_text_whatif.specs.Lists.{some_pairs, lost_head, weaker_head}
use Rattle.ror_show_text_whatif.proofs.Joining.{pairs_more}
use Rattle.ror_show_text_whatif.proofs.lists.write_losses.Goals as goal

pub returns : goal.returns
returns c =
    let t = c.args.table.now in
    let f = c.args.pairs.now in
    let old = c.args.text.now.items in
    let lost = pairs_more t c.lost_head.result.now lost_head c.as_slice.result.now f.lost old c.write_some_pairs.new.text.items c.lost_head.ensures c.as_slice.ensures c.in_ok-write_some_pairs.ensures in
    on_ok_weaker c.write_some_pairs-2.result
    (λ last. two_more (some_pairs t lost_head f.lost) (some_pairs t weaker_head f.weaker) old c.write_some_pairs.new.text.items c.write_some_pairs-2.new.text.items lost
    (pairs_more t c.weaker_head.result.now weaker_head c.as_slice-2.result.now f.weaker c.write_some_pairs.new.text.items c.write_some_pairs-2.new.text.items c.weaker_head.ensures c.as_slice-2.ensures last))
    c.write_some_pairs-2.ensures
