use Rattle.std.proofs.lemmas.Result.{err_from_is_err_and}
use Rattle.ror_discriminate.specs.Reading.{step_in, steps_at}
use Rattle.ror_proof.proofs.Loops.{all_go_on, all_exit, all_end}
use Rattle.ror_discriminate.proofs.words.steps_at.Goals as goal

pub returns-in_err-step-clause-exact : goal.returns-in_err-step-clause-exact
returns-in_err-step-clause-exact c =
    let p = err_from_is_err_and c.from_residual.result c.from_residual.ensures.1 in
    rw (p.1, p.2) (all_exit (step_in c.args.place) c.steps.steps.items c.steps.left c.in-Some.word.now c.in-Some.rest c.in_err-step.field-0.0 (steps_at c.args.place c.args.words) c.in-Some.ensures c.in_err-step.ensures.exact c.steps.invariant)

pub steps-preserved : goal.steps-preserved
steps-preserved c =
    rw c.in_ok-push.ensures.items (all_go_on (step_in c.args.place) c.steps.steps.items c.steps.left c.in-Some.word.now c.in-Some.rest c.in_ok-step.step (steps_at c.args.place c.args.words) c.in-Some.ensures c.in_ok-step.ensures.exact c.steps.invariant)

pub returns-clause-exact : goal.returns-clause-exact
returns-clause-exact c = all_end (step_in c.args.place) c.steps.steps.items c.steps.left (steps_at c.args.place c.args.words) c.in_default.ensures c.steps.invariant
