-- Each question on a class is one of the table.
use Rattle.std.proofs.Common.{◌≡◌, sym, ap, subst, ◌∙◌}
use Rattle.std.specs.List.{AllByRecursion}
use Rattle.ror_value.specs.Over.{IsAskedIn}
use Rattle.ror_classes.specs.Classes.{class_questions}
use Rattle.ror_classes.proofs.ClassLemmas.{class_questions-asked}
use Rattle.ror_classes.proofs.deciding.decide_classes_warm.Goals as goal

pub decide_each_warm-requires-clause-asked : goal.decide_each_warm-requires-clause-asked
decide_each_warm-requires-clause-asked c =
    let t = c.args.table.now in
    let all : c.as_slice.result.now ≡ class_questions c.args.alternative t.classes = c.as_slice.ensures.value ∙ c.in_ok-questions.ensures ∙ ap (class_questions c.args.alternative) c.classes.ensures.number in
    subst (AllByRecursion (IsAskedIn t)) (sym all) (class_questions-asked t c.args.alternative c.requires.alternative)
