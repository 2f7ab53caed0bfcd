use Rattle.std.proofs.Common.{◌∙◌, subst}
use Rattle.ror_pivot.specs.Answers.{most_of}
use Rattle.ror_given.specs.Answers.{IsGiven}
use Rattle.ror_reason.proofs.reasons.answer_over.Goals as goal

pub returns : goal.returns
returns c = record {
  answer = c.in_ok-answer.answer;
  is_alone = c.in_ok-answers.ensures;
  given = subst (λ xs. IsGiven (most_of c.args.bits) c.args.table.now xs c.args.question.now c.in_ok-answer.answer) (c.as_slice.ensures.value ∙ c.in_ok-statements.ensures) (record {
    allowed = c.in_ok-answer.ensures.allowed;
    narrow = c.in_ok-answer.ensures.narrow;
    true_answer = c.in_ok-answer.ensures.true_answer;
  });
}
