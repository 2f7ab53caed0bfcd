use Rattle.std.proofs.Common.{Err, sym, ap, ◌∙◌}
use Rattle.ror_session.specs.declared.session.Command.TheVariants.{Ask}
use Rattle.ror_bench.specs.Allowed.{proved_unless_wide}
use Rattle.ror_bench.proofs.BodyLemmas.{settled_body, settled_refused}
use Rattle.ror_bench.proofs.AnswerLemmas.{Ok_of, answered_checked, answered_refused, not_answered, refuses_asked}
use Rattle.ror_bench.proofs.checking.check_answered.Goals as goal

pub returns-in-Answers-clause-body : goal.returns-in-Answers-clause-body
returns-in-Answers-clause-body c =
    let t = c.args.table.now in
    let r = c.args.history.now.state in
    answered_checked t r c.args.asked.now c.as_slice.result.now c.in-Answers.answers c.as_slice-in-Answers.result.now c.args.body.now c.check_each.result (c.in-Ok.ensures.exact ∙ ap Ok_of (sym c.as_slice.ensures.value)) c.in-Answers.is c.as_slice-in-Answers.ensures c.check_each.ensures.each

pub returns-in-Answers-clause-refused : goal.returns-in-Answers-clause-refused
returns-in-Answers-clause-refused c =
    let t = c.args.table.now in
    let r = c.args.history.now.state in
    answered_refused t r c.args.asked.now c.as_slice.result.now c.in-Answers.answers c.as_slice-in-Answers.result.now c.args.body.now c.check_each.result (c.in-Ok.ensures.exact ∙ ap Ok_of (sym c.as_slice.ensures.value)) c.in-Answers.is c.as_slice-in-Answers.ensures c.check_each.ensures.refused

pub returns-in-Ok : goal.returns-in-Ok
returns-in-Ok c = record {
  checker = c.requires.checker;
  body = tt;
  passed = tt;
  refused = not_answered c.args.table.now c.args.history.now.state c.args.asked.now c.in-Ok.questions.items c.args.body.now c.in-Ok.ensures.exact (λ xs is to. c.in_default.not-Answers xs is);
}

pub returns-clause-body : goal.returns-clause-body
returns-clause-body c =
    let t = c.args.table.now in
    let r = c.args.history.now.state in
    settled_body t r r (Ask c.args.asked.now) proved_unless_wide (Err c.in-Err.stop) c.args.body.now c.check_refused.result tt (refuses_asked t r c.args.asked.now c.in-Err.stop c.in-Err.ensures.exact) c.check_refused.ensures.said

pub returns-clause-refused : goal.returns-clause-refused
returns-clause-refused c =
    let t = c.args.table.now in
    let r = c.args.history.now.state in
    settled_refused t r r (Ask c.args.asked.now) (Err c.in-Err.stop) c.args.body.now c.check_refused.result tt (refuses_asked t r c.args.asked.now c.in-Err.stop c.in-Err.ensures.exact) c.check_refused.ensures.refused
