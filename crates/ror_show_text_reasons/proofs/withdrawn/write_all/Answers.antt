use Rattle.std.proofs.lemmas.Result.{on_ok_weaker}
use Rattle.ror_show_text_reasons.specs.Withdrawn.{withdrawn_head, each_text}
use Rattle.ror_show_kit.proofs.Pieces.{two_more}
use Rattle.ror_show_text_reasons.proofs.withdrawn.write_all.Goals as goal

pub returns : goal.returns
returns c =
    on_ok_weaker c.write_each.result
    (λ last. two_more withdrawn_head (each_text c.args.clashes c.args.withdrawals.now) c.args.text.now.items c.write_text.new.text.items c.write_each.new.text.items c.in_ok-write_text.ensures last)
    c.write_each.ensures
