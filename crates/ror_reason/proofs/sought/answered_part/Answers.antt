use Rattle.std.proofs.Common.{refl, subst}
use Rattle.ror_reason.specs.SearchSteps.{IsDecided}
use Rattle.ror_reason.proofs.sought.answered_part.Goals as goal

pub returns-clause-ok : goal.returns-clause-ok
returns-clause-ok c = record {
  answer = c.in_ok-answer.answer;
  is_alone = c.in_ok-answers.ensures;
  numbers = refl;
  given = subst (λ ns. IsDecided c.args.sought.now ns c.in_ok-answer.answer) c.as_slice.ensures.value c.in_ok-answer.ensures.ok;
}
