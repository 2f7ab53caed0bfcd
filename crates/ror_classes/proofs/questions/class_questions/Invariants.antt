use Rattle.std.proofs.Common.{◌≡◌}
use Rattle.ror_classes.specs.Classes.{class_questions}
use Rattle.ror_classes.proofs.questions.class_questions.Given as goal

abbrev pub invariant-loop-below : goal.invariant-loop-below
invariant-loop-below l = l.questions.items ≡ class_questions l.alternative l.below
