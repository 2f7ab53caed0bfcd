-- The whole parts decide, or the rests, or the inverses of the rests.
use Rattle.std.proofs.Common.{◌≡◌, ◌⊎◌, inl, inr, pos, refl, sym, ◌∙◌}
use Rattle.ror_fraction.proofs.Comparison.{by_wholes, by_rests, by_zero, by_inverses}
use Rattle.ror_fraction.proofs.ratio.+compare_ratios.Goals as goal
use Rattle.ror_fraction.proofs.ratio.+compare_ratios.Goals.{then-is_zero-3, else-is_zero-3}

pub returns-in_default : goal.returns-in_default
returns-in_default g t c =
    let value = g.W.Word.value in
    let same = c.cmp.ensures ∙ g.met.W.Word.order _ _ in
    same ∙ sym (by_wholes _ _ _ _ _ _ _ _ c.requires.p_positive c.requires.q_positive
    (record { exact = c.quot_rem-whole.ensures.exact; not_negative = c.quot_rem-whole.ensures.not_negative; below = c.quot_rem-whole.ensures.below })
    (record { exact = c.quot_rem-other_whole.ensures.exact; not_negative = c.quot_rem-other_whole.ensures.not_negative; below = c.quot_rem-other_whole.ensures.below })
    (λ e. c.in_default.not-Equal (same ∙ e)))

pub returns-in-Equal : goal.returns-in-Equal
returns-in-Equal g t c =
    let value = g.W.Word.value in
    let rest = value c.quot_rem-whole.result.1 in
    let other_rest = value c.quot_rem-other_whole.result.1 in
    let zero : (rest ≡ pos 0) ⊎ (other_rest ≡ pos 0) =
    (elim c.if-is_zero-3.branch [
      | then-is_zero-3 w ↦ inl (w.if-is_zero-3.ensures.0 refl)
      | else-is_zero-3 w ↦ inr (w.is_zero-else-is_zero-3.ensures.0 (sym w.value-is ∙ c.if-is_zero-4.true))
    ]) in
    c.cmp-in-Equal.ensures ∙ g.met.W.Word.order _ _
    ∙ sym (by_rests _ _ _ _ _ _ _ _
    (record { exact = c.quot_rem-whole.ensures.exact; not_negative = c.quot_rem-whole.ensures.not_negative; below = c.quot_rem-whole.ensures.below })
    (record { exact = c.quot_rem-other_whole.ensures.exact; not_negative = c.quot_rem-other_whole.ensures.not_negative; below = c.quot_rem-other_whole.ensures.below })
    (sym (g.met.W.Word.order _ _) ∙ sym c.cmp.ensures ∙ c.in-Equal.is)
    ∙ by_zero rest _ other_rest _ c.requires.p_positive c.requires.q_positive zero)

pub returns-in-Equal-2 : goal.returns-in-Equal-2
returns-in-Equal-2 g t c =
    let value = g.W.Word.value in
    c.compare_ratios.ensures
    ∙ sym (by_rests _ _ _ _ _ _ _ _
    (record { exact = c.quot_rem-whole.ensures.exact; not_negative = c.quot_rem-whole.ensures.not_negative; below = c.quot_rem-whole.ensures.below })
    (record { exact = c.quot_rem-other_whole.ensures.exact; not_negative = c.quot_rem-other_whole.ensures.not_negative; below = c.quot_rem-other_whole.ensures.below })
    (sym (g.met.W.Word.order _ _) ∙ sym c.cmp.ensures ∙ c.in-Equal.is)
    ∙ by_inverses (value c.quot_rem-whole.result.1) (value c.args.p) (value c.quot_rem-other_whole.result.1) (value c.args.q))
