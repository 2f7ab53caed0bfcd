-- The questions on one class more.
use Rattle.ror_classes.proofs.ClassLemmas.{classes_more}
use Rattle.ror_classes.proofs.questions.class_questions.Goals as goal

pub loop-below-preserved : goal.loop-below-preserved
loop-below-preserved c = classes_more c.args.alternative c.loop-below.below c.loop-below.questions.items c.push.new.self.items c.push-in-loop-below.new.self.items c.loop-below.invariant c.in_ok-push.ensures.items c.in_ok-push-2.ensures.items
