use Rattle.std.proofs.lemmas.Result.{on_ok_weaker}
use Rattle.std.specs.Prelude.{codes}
use Rattle.ror_show_text_reasons.specs.Reasons.{counter_text}
use Rattle.ror_show_kit.proofs.Pieces.{two_more}
use Rattle.ror_show_text_reasons.proofs.carried.write_some.Goals as goal

pub returns : goal.returns
returns c =
    on_ok_weaker c.write_against.result
    (λ last. two_more (codes "by some value function ") (counter_text c.args.table.now c.args.question.now c.args.verdict.now) c.args.text.now.items c.extend_from_slice.new.self.items c.write_against.new.text.items c.in_ok-extend_from_slice.ensures.items last)
    c.write_against.ensures
