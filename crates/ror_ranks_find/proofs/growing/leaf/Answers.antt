use Rattle.std.proofs.Common.{ℕ, List, [], ◌∷◌, ◌++◌, sym, ap, ◌∙◌, arith}
use Rattle.ror_text.proofs.ListLemmas.{range_more}
use Rattle.ror_ranks_find.proofs.growing.leaf.Goals as goal

pub loop-place-preserved : goal.loop-place-preserved
loop-place-preserved c =
    let i = c.loop-place.place in
    c.in_ok-push.ensures.items ∙ ap (λ (is : List ℕ). is ++ i ∷ []) c.loop-place.invariant ∙ sym (range_more 0 i i (omega arith))
