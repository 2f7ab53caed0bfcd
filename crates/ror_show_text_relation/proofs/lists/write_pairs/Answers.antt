use Rattle.std.proofs.lemmas.Result.{on_ok_weaker}
use Rattle.ror_show_kit.proofs.Pieces.{three_more}
use Rattle.ror_show_text_relation.specs.Text.{none_text, pairs_listed}
use Rattle.ror_show_text_relation.proofs.lists.write_pairs.Goals as goal

pub returns : goal.returns
returns c =
    let pairs = c.args.pairs.now in
    on_ok_weaker c.write_each_pair.result
    (λ last. three_more c.args.head.now (none_text pairs) (pairs_listed c.args.table.now pairs) c.args.text.now.items c.extend_from_slice.new.self.items c.write_none.new.text.items c.write_each_pair.new.text.items c.in_ok-extend_from_slice.ensures.items c.in_ok-write_none.ensures last)
    c.write_each_pair.ensures
