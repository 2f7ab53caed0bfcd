use Rattle.std.proofs.Common.{◌≡◌, ℤ, ◌*ℤ◌, ◌≤ℤ◌, get_or, pos, FitsSigned, ap, ◌∙◌, sym, subst, arith, rules}
use Rattle.std.specs.Int.{w64, w128}
use Rattle.std.proofs.lemmas.Int.{to_z-of_z}
use mir.Val.{to_z, of_z}
use Rattle.ror_system.specs.System.{IsNarrow}
use Rattle.ror_value.specs.Value.{Normalised, marginal}
use Rattle.ror_value.proofs.Walks.{IsUpTo, IsUpTo-fits, marginal_product, marginal_of_none, marginal-up_to}
use Rattle.ror_value.proofs.value_function.ValueFunction.linear_marginal.Goals as goal

within : (most x y : ℤ) → x ≡ y → IsUpTo most y → (pos 0 ≤ℤ x) × (x ≤ℤ most)
within most x y e h = rw e (h.not_below_zero, h.not_above)

pub returns-then-width-eq0-clause-number : goal.returns-then-width-eq0-clause-number
returns-then-width-eq0-clause-number c = marginal_of_none c.args.table.now c.args.self.now.steps c.args.i c.args.k c.requires.linear (sym c.width.ensures.number ∙ c.if-width-eq0.true)

pub returns-then-width-eq0-clause-bounds : goal.returns-then-width-eq0-clause-bounds
returns-then-width-eq0-clause-bounds c =
    within c.args.self.now.total (pos 0) _ (marginal_of_none c.args.table.now c.args.self.now.steps c.args.i c.args.k c.requires.linear (sym c.width.ensures.number ∙ c.if-width-eq0.true))
    (marginal-up_to c.args.table.now c.args.self.now c.args.i c.args.k c.requires.function c.requires.criterion)

product : (c : goal.After-result-1) → to_z w128 (of_z w128 c.from.result) *ℤ to_z w128 (of_z w128 (get_or c.as_slice.result.now c.column.result (pos 0))) ≡ marginal c.args.table.now c.args.self.now.steps c.args.i c.args.k
product c =
    let x : FitsSigned w64 c.weight.result = search rules in
    let y : FitsSigned w128 c.from.result = search rules in
    let z : FitsSigned w128 (get_or c.as_slice.result.now c.column.result (pos 0)) = search rules in
    marginal_product c.args.table.now c.args.self.now.steps c.as_slice.result.now c.args.i c.args.k c.column.result _ _ c.requires.linear (omega (arith, c.width.ensures.number, c.if-width-eq0.false))
    (c.as_slice.ensures ∙ ap (λ (f : Normalised). f.steps) c.self.view_is) c.column.ensures.number (to_z-of_z w128 _ y ∙ c.from.ensures ∙ to_z-of_z w64 _ x ∙ c.weight.ensures.value) (to_z-of_z w128 _ z)

narrow : (c : goal.After-result-1) → IsNarrow c.args.self.now.total
narrow c = subst (λ (f : Normalised). IsNarrow f.total) c.self.view_is c.self.invariant

fits : (c : goal.After-result-1) → FitsSigned w128 (to_z w128 (of_z w128 c.from.result) *ℤ to_z w128 (of_z w128 (get_or c.as_slice.result.now c.column.result (pos 0))))
fits c = subst (FitsSigned w128) (sym (product c)) (IsUpTo-fits c.args.self.now.total _ (narrow c) (marginal-up_to c.args.table.now c.args.self.now c.args.i c.args.k c.requires.function c.requires.criterion))

pub overflow_mul-result : goal.overflow_mul-result
overflow_mul-result c = fits c

pub returns-clause-number : goal.returns-clause-number
returns-clause-number c = to_z-of_z w128 _ (fits c) ∙ product c

pub returns-clause-bounds : goal.returns-clause-bounds
returns-clause-bounds c =
    within c.args.self.now.total _ _ (to_z-of_z w128 _ (fits c) ∙ product c) (marginal-up_to c.args.table.now c.args.self.now c.args.i c.args.k c.requires.function c.requires.criterion)
