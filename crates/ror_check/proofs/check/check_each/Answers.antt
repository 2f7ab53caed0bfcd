use Rattle.std.proofs.Common.{arith, Err}
use Rattle.ror_check.proofs.ManyAnswers.{proved_more, all_proved, all_true, answers_refused, none_proved}
use Rattle.ror_check.proofs.check.check_each.Goals as goal

pub returns-in-Err-clause-refused : goal.returns-in-Err-clause-refused
returns-in-Err-clause-refused c =
    rw c.refused_at.ensures (answers_refused c.args.table.now c.args.list.now c.args.answers.now c.loop-place.place c.index-answers-place.result c.in-Err.fault c.loop-place.invariant.0 c.loop-place-test.true c.index-answers-place.is c.in-Err.ensures.concludes c.in-Err.ensures.err)

pub returns-in-Err-clause-not_proved : goal.returns-in-Err-clause-not_proved
returns-in-Err-clause-not_proved c = none_proved {A = Unit {0}} c.args.table.now c.args.list.now c.args.answers.now (Err c.refused_at.result) (returns-in-Err-clause-refused c)

pub loop-place-preserved : goal.loop-place-preserved
loop-place-preserved c =
    (proved_more c.args.table.now c.args.list.now c.args.answers.now c.loop-place.place c.index-answers-place.result c.loop-place.invariant.0 c.loop-place-test.true c.index-answers-place.is c.in_default.ensures.ok, c.check_unless_wide.ensures.base)

pub returns-clause-accepted : goal.returns-clause-accepted
returns-clause-accepted c =
    let end = c.loop-place-test.false in
    all_proved c.args.table.now c.args.list.now c.args.answers.now (λ j x within there. c.loop-place.invariant.0 j x (omega arith) there)

pub returns-clause-true_answers : goal.returns-clause-true_answers
returns-clause-true_answers c = all_true c.args.table.now c.args.list.now c.args.answers.now c.requires.lawful c.requires.named (returns-clause-accepted c)
