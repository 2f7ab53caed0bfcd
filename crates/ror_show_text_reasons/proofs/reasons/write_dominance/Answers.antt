use Rattle.std.proofs.lemmas.Result.{on_ok_weaker}
use Rattle.std.specs.Prelude.{codes}
use Rattle.ror_show_kit.specs.Claims.{claim_of}
use Rattle.ror_show_kit.proofs.Pieces.{three_more}
use Rattle.ror_show_text_reasons.proofs.reasons.write_dominance.Goals as goal

pub returns : goal.returns
returns c =
    on_ok_weaker c.write_text.result
    (λ last. three_more (codes "it holds by dominance alone: ") (claim_of c.args.table.now c.args.question.now) (codes " on each criterion") c.args.text.now.items c.extend_from_slice.new.self.items c.write_claim.new.text.items c.write_text.new.text.items c.in_ok-extend_from_slice.ensures.items c.in_ok-write_claim.ensures last)
    c.write_text.ensures
