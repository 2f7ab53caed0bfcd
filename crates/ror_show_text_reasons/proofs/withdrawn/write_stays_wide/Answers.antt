use Rattle.std.specs.Prelude.{codes}
use Rattle.std.proofs.lemmas.Result.{on_ok_weaker}
use Rattle.ror_show_text_reasons.specs.Withdrawn.{stays_words}
use Rattle.ror_show_kit.proofs.Pieces.{two_more}
use Rattle.ror_show_text_reasons.proofs.withdrawn.write_stays_wide.Goals as goal

pub returns : goal.returns
returns c =
    on_ok_weaker c.write_text.result
    (λ last. two_more (stays_words c.args.clashes c.args.numbers.now) (codes " (perhaps by fewer)") c.args.text.now.items c.write_stays.new.text.items c.write_text.new.text.items c.in_ok-write_stays.ensures last)
    c.write_text.ensures
