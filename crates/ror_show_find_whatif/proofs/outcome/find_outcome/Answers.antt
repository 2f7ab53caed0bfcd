use Rattle.std.proofs.Common.{List, ap, subst, ◌∙◌}
use Rattle.ror_proof.specs.declared.answer.Answer.{Answer}
use Rattle.ror_show_find_whatif.specs.Agreement.{agreement_by}
use Rattle.ror_show_find_whatif.specs.Outcomes.{IsEffect}
use Rattle.ror_show_find_whatif.proofs.outcome.find_outcome.Goals as goal

pub returns : goal.returns
returns c =
    let s = c.args.stood.now in
    let made = c.in_ok-answers in
    record {
      answers = made.answers.items;
      are = made.ensures;
      agreement = c.agreement_by.ensures ∙ ap agreement_by c.as_slice-answers.ensures.value;
      effect = subst (λ (xs : List Answer). IsEffect c.args.asks s.table.now s.answers.now xs c.in_ok-effect.effect) c.as_slice-answers.ensures.value c.in_ok-effect.ensures;
    }
