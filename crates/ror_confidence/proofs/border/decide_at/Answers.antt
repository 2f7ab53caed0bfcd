use Rattle.ror_confidence.proofs.border.decide_at.Goals as goal

pub returns : goal.returns
returns g c = record {
  answer = c.in_ok-answer.answer;
  is_alone = c.in_ok-answers.ensures;
  given = c.in_ok-answer.ensures.given;
}
