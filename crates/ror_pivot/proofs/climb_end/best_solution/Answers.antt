-- A number of the steps that is too wide is the first, or their total is; where none is, the steps are read.
use Rattle.std.proofs.Common.{◌∙◌, length, ap, sym}
use Rattle.std.proofs.lemmas.Result.{err_from_is_err_and}
use Rattle.ror_pivot.specs.declared.fault.ClimbStop.TheVariants.{Wide}
use Rattle.ror_pivot.specs.declared.optimum.ClimbPlace.TheVariants.{Total}
use Rattle.ror_pivot.specs.Ends.{basic_solution}
use Rattle.ror_pivot.specs.Optimality.{total_by}
use Rattle.ror_pivot.specs.Climbing.{climbing_shape, steps_numbers}
use Rattle.ror_pivot.proofs.FeasibleReading.{length-basic_solution}
use Rattle.ror_pivot.proofs.MultiplierLemmas.{sum_given, sum_not_given}
use Rattle.ror_pivot.proofs.ClimbReadings.{stop_named}
use Rattle.ror_pivot.proofs.ClimbSteps.{steps_read, steps_fault, total_exact, total_wide, steps_given}
use Rattle.ror_pivot.proofs.climb_end.best_solution.Goals as goal

pub returns-in_err-values-clause-exact : goal.returns-in_err-values-clause-exact
returns-in_err-values-clause-exact g c =
    let exit = err_from_is_err_and c.from_residual.result c.from_residual.ensures.1 in
    rw (exit.1, exit.2) (steps_fault g.W.Word.most c.args.s.now c.args.top.now c.args.rows.now c.climbing.result _ c.in_err-values.field-0.0 c.climbing.ensures.value c.in_err-values.ensures.exact)

pub absolute_row_sum-requires : goal.absolute_row_sum-requires
absolute_row_sum-requires g c =
    let read = steps_read g.W.Word.most c.args.s.now c.args.rows.now c.climbing.result c.in_ok-values.values.items c.climbing.ensures.value c.in_ok-values.ensures.exact in
    ap length (c.as_slice.ensures.value ∙ read.are) ∙ length-basic_solution (climbing_shape c.args.s.now) c.args.rows.now ∙ sym c.requires.tops.one_for_each_column

pub returns-in_err-ok_or-clause-exact : goal.returns-in_err-ok_or-clause-exact
returns-in_err-ok_or-clause-exact g c =
    let value = g.W.Word.value in
    let most = g.W.Word.most in
    let s = c.args.s.now in
    let tops = c.args.top.now in
    let rows = c.args.rows.now in
    let read = steps_read most s rows c.climbing.result c.in_ok-values.values.items c.climbing.ensures.value c.in_ok-values.ensures.exact in
    let total = total_exact value most c.absolute_row_sum.result s tops rows c.in_ok-values.values.items c.as_slice.result.now c.as_slice.ensures.value read c.requires.tops c.requires.end.steps_not_negative c.absolute_row_sum.ensures in
    let over = sum_not_given value most c.absolute_row_sum.result (Wide Total) c.in_err-ok_or.field-0.0 (total_by tops (basic_solution (climbing_shape s) rows)) c.in_err-ok_or.ensures.value total in
    let exit = err_from_is_err_and c.from_residual-in_err-ok_or.result c.from_residual-in_err-ok_or.ensures.1 in
    rw (exit.1, exit.2) (stop_named most (steps_numbers s tops rows) (basic_solution (climbing_shape s) rows) Total c.in_err-ok_or.field-0.0 over.0 (total_wide most s tops rows c.in_ok-values.values.items read over.1))

pub returns-clause-exact : goal.returns-clause-exact
returns-clause-exact g c =
    let value = g.W.Word.value in
    let most = g.W.Word.most in
    let s = c.args.s.now in
    let tops = c.args.top.now in
    let rows = c.args.rows.now in
    let read = steps_read most s rows c.climbing.result c.in_ok-values.values.items c.climbing.ensures.value c.in_ok-values.ensures.exact in
    let total = total_exact value most c.absolute_row_sum.result s tops rows c.in_ok-values.values.items c.as_slice.result.now c.as_slice.ensures.value read c.requires.tops c.requires.end.steps_not_negative c.absolute_row_sum.ensures in
    let narrow = sum_given value most c.absolute_row_sum.result (Wide Total) c.in_ok-ok_or.field-0 (total_by tops (basic_solution (climbing_shape s) rows)) c.in_ok-ok_or.ensures.value total in
    steps_given most s tops rows c.in_ok-values.values.items c.in_ok-steps.steps (c.in_ok-steps.ensures ∙ c.as_slice-2.ensures.value) read narrow
