use Rattle.std.proofs.lemmas.Result.{on_ok_weaker}
use Rattle.std.specs.Prelude.{codes}
use Rattle.ror_show_kit.specs.Heads.{counted}
use Rattle.ror_show_kit.proofs.Pieces.{four_more}
use Rattle.ror_show_text_relation.proofs.text.write_pairs.Goals as goal

pub returns : goal.returns
returns c =
    let n = c.args.counts in
    on_ok_weaker c.write_count-4.result
    (λ last. four_more (counted (codes "\n  of ") c.args.pairs) (counted (codes " pairs ") n.decided) (counted (codes " are decided, ") n.open) (counted (codes " open, ") c.args.unknown) c.args.text.now.items c.write_count.new.text.items c.write_count-2.new.text.items c.write_count-3.new.text.items c.write_count-4.new.text.items c.in_ok-write_count.ensures c.in_ok-write_count-2.ensures c.in_ok-write_count-3.ensures last)
    c.write_count-4.ensures
