use Rattle.std.proofs.Common.{ℕ, List, length, sym, subst, ◌∙◌}
use Rattle.std.specs.List.{AllByRecursion}
use Rattle.std.proofs.lemmas.Result.{IfOk-weaker}
use Rattle.ror_show_ground.specs.Grounds.{ground_of}
use Rattle.ror_show_find_reasons.specs.Pairs.{AreWithin, AreChangesAt}
use Rattle.ror_show_find_reasons.proofs.Steps.{turns_within}
use Rattle.ror_show_find_reasons.proofs.changes.find_changes.Goals as goal

pub changes_at-requires-clause-within : goal.changes_at-requires-clause-within
changes_at-requires-clause-within c =
    let g = c.args.ground.now in
    subst (AllByRecursion (AreWithin (length g.kept.now))) (sym (c.as_slice.ensures.value ∙ c.in_ok-turns.ensures)) (turns_within g.session.now g.kept.now)

pub returns : goal.returns
returns c =
    let g = ground_of c.args.ground.now in
    IfOk-weaker c.changes_at.result _ _
    (λ found are. subst (λ (turns : List (ℕ × ℕ)). AreChangesAt c.args.sought g turns found) (c.as_slice.ensures.value ∙ c.in_ok-turns.ensures) are)
    c.changes_at.ensures
