use Rattle.std.proofs.Common.{◌≡◌, ◌+ℤ◌, ◌+◌, get_or, pos, FitsSigned, ap, ◌∙◌, sym, subst, arith, rules}
use Rattle.std.specs.Int.{w128}
use Rattle.std.proofs.lemmas.Int.{to_z-of_z}
use mir.Val.{to_z, of_z}
use Rattle.ror_system.specs.System.{IsNarrow}
use Rattle.ror_value.specs.Value.{Normalised, marginal}
use Rattle.ror_value.proofs.Walks.{IsUpTo, IsUpTo-fits, marginal_step, marginal-up_to}
use Rattle.ror_value.proofs.value_function.ValueFunction.sum_of_steps.Goals as goal

sum : (c : goal.After-sum-1) → to_z w128 c.loop-step.sum-bits +ℤ to_z w128 (of_z w128 (get_or c.as_slice-steps.result.now c.column.result (pos 0))) ≡ marginal c.args.table.now c.args.self.now.steps c.args.i (c.loop-step.step + 1)
sum c =
    let fits : FitsSigned w128 (get_or c.as_slice-steps.result.now c.column.result (pos 0)) = search rules in
    marginal_step c.args.table.now c.args.self.now.steps c.as_slice-steps.result.now c.args.i c.loop-step.step c.column.result _ _ c.requires.stepwise (omega (arith, c.requires.within, c.loop-step-test.true))
    (c.as_slice-steps.ensures ∙ ap (λ (f : Normalised). f.steps) c.self.view_is) c.column.ensures.number c.loop-step.invariant (to_z-of_z w128 _ fits)

fits_next : (c : goal.After-sum-1) → FitsSigned w128 (to_z w128 c.loop-step.sum-bits +ℤ to_z w128 (of_z w128 (get_or c.as_slice-steps.result.now c.column.result (pos 0))))
fits_next c =
    let narrow : IsNarrow c.args.self.now.total = subst (λ (f : Normalised). IsNarrow f.total) c.self.view_is c.self.invariant in
    subst (FitsSigned w128) (sym (sum c)) (IsUpTo-fits c.args.self.now.total _ narrow (marginal-up_to c.args.table.now c.args.self.now c.args.i (c.loop-step.step + 1) c.requires.function c.requires.criterion))

pub overflow_add-sum : goal.overflow_add-sum
overflow_add-sum c = fits_next c

pub loop-step-preserved : goal.loop-step-preserved
loop-step-preserved c = to_z-of_z w128 _ (fits_next c) ∙ sum c

pub returns-clause-bounds : goal.returns-clause-bounds
returns-clause-bounds c =
    let b = subst (IsUpTo c.args.self.now.total) (sym c.loop-step.invariant) (marginal-up_to c.args.table.now c.args.self.now c.args.i c.loop-step.step c.requires.function c.requires.criterion) in
    (b.not_below_zero, b.not_above)
