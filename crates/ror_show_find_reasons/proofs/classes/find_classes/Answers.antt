use Rattle.std.proofs.Common.{◌<◌, ℕ, List, length, sym, subst, ◌∙◌}
use Rattle.std.specs.List.{AllByRecursion}
use Rattle.std.proofs.lemmas.Result.{IfOk-weaker}
use Rattle.ror_show_find_classes.specs.Times.{begins}
use Rattle.ror_show_ground.specs.Grounds.{ground_of}
use Rattle.ror_show_ground.proofs.Lists.{picked_within}
use Rattle.ror_show_find_reasons.specs.Bounds.{AreClassesAt}
use Rattle.ror_show_find_reasons.proofs.classes.find_classes.Goals as goal

pub classes_at-requires-clause-within : goal.classes_at-requires-clause-within
classes_at-requires-clause-within c =
    let g = c.args.ground.now in
    subst (AllByRecursion (λ (n : ℕ). n < length g.kept.now)) (sym (c.as_slice.ensures.value ∙ c.in_ok-starts.ensures)) (picked_within (begins g.session.now g.kept.now) (length g.kept.now))

pub returns : goal.returns
returns c =
    let g = ground_of c.args.ground.now in
    IfOk-weaker c.classes_at.result _ _
    (λ found are. subst (λ (times : List ℕ). AreClassesAt c.args.sought g times found) (c.as_slice.ensures.value ∙ c.in_ok-starts.ensures) are)
    c.classes_at.ensures
