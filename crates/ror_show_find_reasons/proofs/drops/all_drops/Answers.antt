use Rattle.std.proofs.Common.{◌<◌, ℕ, List, length, sym, subst, ◌∙◌}
use Rattle.std.specs.List.{AllByRecursion, AllZip}
use Rattle.std.proofs.lemmas.Result.{IfOk-weaker}
use Rattle.ror_check.specs.Repair.{numbers_of}
use Rattle.ror_show_ground.proofs.Lists.{picked_within}
use Rattle.ror_show_find_reasons.specs.Lines.{is_dropped_at, IsDropAt}
use Rattle.ror_show_find_reasons.proofs.drops.all_drops.Goals as goal

pub drops_at-requires-clause-within : goal.drops_at-requires-clause-within
drops_at-requires-clause-within c =
    let list = c.args.stood.now.list.now in
    subst (AllByRecursion (λ (n : ℕ). n < length list)) (sym (c.as_slice.ensures.value ∙ c.in_ok-places.ensures)) (picked_within (is_dropped_at (numbers_of c.args.dropped.now) list) (length list))

pub returns : goal.returns
returns c =
    let s = c.args.stood.now in
    let R = IsDropAt s.table.now s.list.now (numbers_of c.args.dropped.now) in
    IfOk-weaker c.drops_at.result _ _
    (λ found are. subst (λ (places : List ℕ). AllZip R places found) (c.as_slice.ensures.value ∙ c.in_ok-places.ensures) are)
    c.drops_at.ensures
