use Rattle.std.proofs.Common.{◌<◌, ℕ, List, length, sym, subst, ◌∙◌}
use Rattle.std.specs.List.{AllByRecursion, AllZip}
use Rattle.std.proofs.lemmas.Result.{IfOk-weaker}
use Rattle.ror_show_ground.proofs.Lists.{picked_within}
use Rattle.ror_show_find_reasons.specs.Lines.{is_told_at, IsToldAt}
use Rattle.ror_show_find_reasons.proofs.telling.find_told.Goals as goal

pub told_at-requires-clause-within : goal.told_at-requires-clause-within
told_at-requires-clause-within c =
    let xs = c.args.stood.now.answers.now in
    subst (AllByRecursion (λ (n : ℕ). n < length xs)) (sym (c.as_slice.ensures.value ∙ c.in_ok-places.ensures)) (picked_within (is_told_at c.args.meant xs) (length xs))

pub returns : goal.returns
returns c =
    let s = c.args.stood.now in
    let R = IsToldAt s.table.now s.list.now s.answers.now in
    IfOk-weaker c.told_at.result _ _
    (λ found are. subst (λ (places : List ℕ). AllZip R places found) (c.as_slice.ensures.value ∙ c.in_ok-places.ensures) are)
    c.told_at.ensures
