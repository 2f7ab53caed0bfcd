use Rattle.std.proofs.Common.{◌<◌, ℕ, List, length, sym, subst, ◌∙◌}
use Rattle.std.specs.List.{AllByRecursion, AllZip}
use Rattle.std.proofs.lemmas.Result.{IfOk-weaker}
use Rattle.ror_show_ground.specs.Grounds.{ground_of}
use Rattle.ror_show_ground.proofs.Lists.{picked_within}
use Rattle.ror_show_find_classes.specs.Times.{begins}
use Rattle.ror_show_find_whatif.specs.Findings.{IsTimeWhatIf}
use Rattle.ror_show_find_whatif.proofs.times.find_class_whatifs.Goals as goal

pub times_at-requires-clause-within : goal.times_at-requires-clause-within
times_at-requires-clause-within c =
    let g = c.args.ground.now in
    subst (AllByRecursion (λ (n : ℕ). n < length g.kept.now)) (sym (c.as_slice.ensures.value ∙ c.in_ok-starts.ensures)) (picked_within (begins g.session.now g.kept.now) (length g.kept.now))

pub returns : goal.returns
returns c =
    let R = IsTimeWhatIf (ground_of c.args.ground.now) in
    IfOk-weaker c.times_at.result _ _
    (λ found are. subst (λ (times : List ℕ). AllZip R times found) (c.as_slice.ensures.value ∙ c.in_ok-starts.ensures) are)
    c.times_at.ensures
