use Rattle.std.proofs.Common.{refl}
use Rattle.ror_bench.proofs.AnswerLemmas.{to_more, to_all}
use Rattle.ror_bench.proofs.checking.are_to.Goals as goal

pub loop-place-init : goal.loop-place-init
loop-place-init c = refl

pub loop-place-preserved : goal.loop-place-preserved
loop-place-preserved c = to_more c.args.questions.now c.args.answers.now c.loop-place.place c.index-answers-place.result _ c.if-questions-answers.false c.loop-place-test.true c.index-answers-place.is c.loop-place.invariant (c.is_same.ensures.0 c.if-not-is_same.false)

pub returns : goal.returns
returns c = to_all c.args.questions.now c.args.answers.now c.loop-place.place c.if-questions-answers.false c.loop-place-test.false c.loop-place.invariant
