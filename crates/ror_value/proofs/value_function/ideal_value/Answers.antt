use Rattle.std.proofs.Common.{◌≡◌, ◌+◌, true, false, ℤ, ◌<ℤ◌, int_lt, get_or, pos, FitsSigned, ◌∙◌, refl, sym, ap, arith, rules}
use Rattle.std.specs.Int.{w64, w128}
use Rattle.std.proofs.lemmas.Bool.{false≢true}
use Rattle.ror_table.proofs.AmountLemmas.{lt_of_test, test_of_lt}
use mir.Val.{to_z}
use Rattle.ror_integers.specs.Vectors.{entry}
use Rattle.ror_table.specs.Blocks.{tops}
use Rattle.ror_value.proofs.Walks.{ideal_step, ideal_fits, ideal_reached, product_read, kept_sum, sum_fits}
use Rattle.ror_value.proofs.value_function.ideal_value.Goals as goal

pub returns-in_err-product : goal.returns-in_err-product
returns-in_err-product c =
    let x : FitsSigned w64 c.top.result = search rules in
    let y : FitsSigned w128 c.from.result = search rules in
    let z : FitsSigned w128 (get_or c.args.steps.now c.loop-column.column (pos 0)) = search rules in
    let product = product_read (entry (tops c.args.table.now) c.loop-column.column) (entry c.args.steps.now c.loop-column.column) _ _ _ x y z c.from.ensures c.top.ensures.value refl in
    let step = ideal_step c.args.table.now c.args.steps.now _ _ c.loop-column.column c.columns-column-end.ensures.table c.requires.columns c.requires.none_negative c.loop-column.invariant (omega (arith, c.columns-column-end.ensures.number)) product in
    rw c.from_residual.ensures (λ h. c.in_err-product.ensures (ideal_fits c.args.table.now c.args.steps.now _ step.0 h.1))

pub returns-in_err-sum : goal.returns-in_err-sum
returns-in_err-sum c =
    let x : FitsSigned w64 c.top.result = search rules in
    let y : FitsSigned w128 c.from.result = search rules in
    let z : FitsSigned w128 (get_or c.args.steps.now c.loop-column.column (pos 0)) = search rules in
    let product = product_read (entry (tops c.args.table.now) c.loop-column.column) (entry c.args.steps.now c.loop-column.column) _ _ _ x y z c.from.ensures c.top.ensures.value refl in
    let step = ideal_step c.args.table.now c.args.steps.now _ _ c.loop-column.column c.columns-column-end.ensures.table c.requires.columns c.requires.none_negative c.loop-column.invariant (omega (arith, c.columns-column-end.ensures.number)) product in
    let made = c.in_ok-product.ensures in
    rw c.from_residual-in_err-sum.ensures (λ h. c.in_err-sum.ensures (sum_fits _ _ c.in_ok-product.product made.0 made.1 (ideal_fits c.args.table.now c.args.steps.now _ step.1 h.1)))

pub loop-column-preserved : goal.loop-column-preserved
loop-column-preserved c =
    let x : FitsSigned w64 c.top.result = search rules in
    let y : FitsSigned w128 c.from.result = search rules in
    let z : FitsSigned w128 (get_or c.args.steps.now c.loop-column.column (pos 0)) = search rules in
    let product = product_read (entry (tops c.args.table.now) c.loop-column.column) (entry c.args.steps.now c.loop-column.column) _ _ _ x y z c.from.ensures c.top.ensures.value refl in
    let step = ideal_step c.args.table.now c.args.steps.now _ _ c.loop-column.column c.columns-column-end.ensures.table c.requires.columns c.requires.none_negative c.loop-column.invariant (omega (arith, c.columns-column-end.ensures.number)) product in
    let made = c.in_ok-product.ensures in
    let added = c.in_ok-sum.ensures in
    kept_sum c.args.table.now c.args.steps.now _ _ c.in_ok-product.product _ c.in_ok-sum.sum (c.loop-column.column + 1) made.0 made.1 added.0 refl added.1 step.2

pub returns-then-sum-gt0 : goal.returns-then-sum-gt0
returns-then-sum-gt0 c =
    let fits : FitsSigned w128 (to_z w128 c.loop-column.sum-bits) = search rules in
    let done = ideal_reached c.args.table.now c.args.steps.now _ c.loop-column.column c.loop-column.invariant (omega (arith, c.columns-column-end.ensures.number)) fits in
    (done.0, lt_of_test (pos 0) _ c.if-sum-gt0.true, done.1)

pub returns-else-sum-gt0 : goal.returns-else-sum-gt0
returns-else-sum-gt0 c =
    let fits : FitsSigned w128 (to_z w128 c.loop-column.sum-bits) = search rules in
    let done = ideal_reached c.args.table.now c.args.steps.now _ c.loop-column.column c.loop-column.invariant (omega (arith, c.columns-column-end.ensures.number)) fits in
    λ h. absurd (not_positive _ _ c.if-sum-gt0.false done.0 h.0)
  where
    not_positive : (x y : ℤ) → int_lt (pos 0) x ≡ false → x ≡ y → pos 0 <ℤ y → ⊥
    not_positive x y test same positive = let passes : int_lt (pos 0) y ≡ true = test_of_lt (pos 0) y positive in false≢true (sym test ∙ ap (int_lt (pos 0)) same ∙ passes)
