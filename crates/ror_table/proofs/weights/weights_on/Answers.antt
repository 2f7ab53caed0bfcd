use Rattle.std.proofs.Common.{◌≡◌, ◌<◌, ◌≤◌, List, false, inl, inr, ap, sym, subst, ◌∙◌, arith, All}
use Rattle.ror_integers.specs.Gcd.{gcd_of}
use Rattle.ror_integers.specs.LowestTerms.{reduced}
use Rattle.ror_table.specs.declared.amount.Amount.{Amount}
use Rattle.ror_table.specs.declared.limits.TheConstants.{AMOUNT_LIMIT}
use Rattle.ror_table.specs.Amounts.{IsAmount}
use Rattle.ror_table.specs.Table.{has_weights, has_wide_weights, steps, performances_on, common_denominator}
use Rattle.ror_table.proofs.RankLemmas.{steps-levels}
use Rattle.ror_table.proofs.WeightLemmas.{has_weights-none, has_weights-from, has_wide_weights-none, refuse_not, refuse_wide, gives_wide, wide_denominator, wide_levels, narrow_levels, distances_worked_out, divisor_positive}
use Rattle.ror_table.proofs.weights.weights_on.Goals as goal
use Rattle.ror_table.proofs.weights.weights_on.Goals.{then-not-is_linear-via-then-not-is_linear, then-not-is_linear-via-else-not-is_linear+then-levels-lt2}

none : (c : goal.After-new) → has_weights c.args.draft.now c.args.i ≡ false
none c = elim c.then-not-is_linear.branch [
  | then-not-is_linear-via-then-not-is_linear w ↦ has_weights-none c.args.draft.now c.args.i (inl (sym c.is_linear.ensures ∙ w.if-not-is_linear.true))
  | then-not-is_linear-via-else-not-is_linear+then-levels-lt2 w ↦ has_weights-none c.args.draft.now c.args.i (inr (omega (arith, w.if-levels-lt2.true, steps-levels c.args.draft.now c.args.i c.args.levels.now c.requires.levels)))
]

pub returns-then-not-is_linear-clause-exact : goal.returns-then-not-is_linear-clause-exact
returns-then-not-is_linear-clause-exact c = refuse_not (has_wide_weights c.args.draft.now c.args.i) (has_wide_weights-none c.args.draft.now c.args.i (none c))

pub returns-then-not-is_linear-clause-weights : goal.returns-then-not-is_linear-clause-weights
returns-then-not-is_linear-clause-weights c = let no = none c in λ has. absurd (cc)

pub returns-in_default-clause-exact : goal.returns-in_default-clause-exact
returns-in_default-clause-exact c =
    let t = c.args.draft.now in
    let i = c.args.i in
    let some : 0 < steps t i = omega (arith, c.if-levels-lt2.false, steps-levels t i c.args.levels.now c.requires.levels) in
    let has = has_weights-from t i (sym c.is_linear.ensures ∙ c.if-not-is_linear.false) some in
    let ps : c.deref.result.now ≡ performances_on t i = c.deref.ensures.value ∙ c.in_ok-performances.ensures.exact in
    refuse_wide (has_wide_weights t i) (wide_denominator t i has (subst (λ (xs : List Amount). AMOUNT_LIMIT ≤ common_denominator xs) ps c.in_default.ensures))

pub returns-in_err-distances-clause-exact : goal.returns-in_err-distances-clause-exact
returns-in_err-distances-clause-exact c =
    let t = c.args.draft.now in
    let i = c.args.i in
    let some : 0 < steps t i = omega (arith, c.if-levels-lt2.false, steps-levels t i c.args.levels.now c.requires.levels) in
    let has = has_weights-from t i (sym c.is_linear.ensures ∙ c.if-not-is_linear.false) some in
    let ps : c.deref.result.now ≡ performances_on t i = c.deref.ensures.value ∙ c.in_ok-performances.ensures.exact in
    let all : All IsAmount (performances_on t i) = subst (λ (xs : List Amount). All IsAmount xs) c.in_ok-performances.ensures.exact c.in_ok-performances.ensures.amounts in
    let is : c.in-Some.common ≡ common_denominator (performances_on t i) = c.in-Some.ensures.0 ∙ ap common_denominator ps in
    gives_wide c.from_residual-in_err-distances.result c.in_err-distances.field-0.0 (has_wide_weights t i) c.from_residual-in_err-distances.ensures.1
    (λ other. let w = c.in_err-distances.ensures.wide other in (w.0, wide_levels t i c.in-Some.common c.args.levels.now all c.requires.levels is has w.1))

pub reduced-requires-clause-some : goal.reduced-requires-clause-some
reduced-requires-clause-some c =
    let t = c.args.draft.now in
    let i = c.args.i in
    let some : 0 < steps t i = omega (arith, c.if-levels-lt2.false, steps-levels t i c.args.levels.now c.requires.levels) in
    let ps : c.deref.result.now ≡ performances_on t i = c.deref.ensures.value ∙ c.in_ok-performances.ensures.exact in
    let all : All IsAmount (performances_on t i) = subst (λ (xs : List Amount). All IsAmount xs) c.in_ok-performances.ensures.exact c.in_ok-performances.ensures.amounts in
    let is : c.in-Some.common ≡ common_denominator (performances_on t i) = c.in-Some.ensures.0 ∙ ap common_denominator ps in
    let e = ap gcd_of (c.deref-2.ensures.value ∙ c.in_ok-distances.ensures.exact ∙ distances_worked_out t i c.in-Some.common c.args.levels.now c.requires.levels is some) in
    let p = divisor_positive t i all some in
    λ zero. absurd (omega (arith, zero, e, p))

pub returns-clause-exact : goal.returns-clause-exact
returns-clause-exact c =
    let t = c.args.draft.now in
    let i = c.args.i in
    let some : 0 < steps t i = omega (arith, c.if-levels-lt2.false, steps-levels t i c.args.levels.now c.requires.levels) in
    let ps : c.deref.result.now ≡ performances_on t i = c.deref.ensures.value ∙ c.in_ok-performances.ensures.exact in
    let is : c.in-Some.common ≡ common_denominator (performances_on t i) = c.in-Some.ensures.0 ∙ ap common_denominator ps in
    refuse_not (has_wide_weights t i)
    (narrow_levels t i c.in-Some.common c.args.levels.now c.requires.levels is some c.in-Some.ensures.2 (rw (← c.in_ok-distances.ensures.exact) c.in_ok-distances.ensures.small))

pub returns-clause-weights : goal.returns-clause-weights
returns-clause-weights c =
    let t = c.args.draft.now in
    let i = c.args.i in
    let some : 0 < steps t i = omega (arith, c.if-levels-lt2.false, steps-levels t i c.args.levels.now c.requires.levels) in
    let ps : c.deref.result.now ≡ performances_on t i = c.deref.ensures.value ∙ c.in_ok-performances.ensures.exact in
    let is : c.in-Some.common ≡ common_denominator (performances_on t i) = c.in-Some.ensures.0 ∙ ap common_denominator ps in
    λ has. c.in_ok-reduced.ensures ∙ ap reduced (c.deref-2.ensures.value ∙ c.in_ok-distances.ensures.exact ∙ distances_worked_out t i c.in-Some.common c.args.levels.now c.requires.levels is some)
