-- The first part that has a number that is too wide names it; where none has, both are read.
use Rattle.std.proofs.Common.{List, ℤ}
use Rattle.std.proofs.lemmas.Result.{err_from_is_err_and}
use Rattle.ror_fraction.proofs.WideLemmas.{none_of_value}
use Rattle.ror_pivot.specs.declared.optimum.ClimbPlace.{ClimbPlace}
use Rattle.ror_pivot.specs.Ends.{basic_solution, weak_multipliers_at}
use Rattle.ror_pivot.specs.Climbing.{climbing_shape, climbed_strict, optimum_of, steps_numbers, columns_numbers}
use Rattle.ror_pivot.proofs.ReadingLemmas.{fault_of_earlier, fault_of_later}
use Rattle.ror_pivot.proofs.ClimbMultipliers.{optimum_given}
use Rattle.ror_pivot.proofs.climb_end.climb_end.Goals as goal

pub returns-in_err-solution-clause-exact : goal.returns-in_err-solution-clause-exact
returns-in_err-solution-clause-exact g c =
    let s = c.args.s.now in
    let rows = c.args.rows.now in
    let exit = err_from_is_err_and c.from_residual.result c.from_residual.ensures.1 in
    rw (exit.1, exit.2) (fault_of_earlier g.W.Word.most (steps_numbers s c.args.top.now rows) (columns_numbers s c.args.top.now rows) (basic_solution (climbing_shape s) rows) (optimum_of s rows) _ c.in_err-solution.ensures.exact)

pub returns-in_err-multipliers-clause-exact : goal.returns-in_err-multipliers-clause-exact
returns-in_err-multipliers-clause-exact g c =
    let s = c.args.s.now in
    let rows = c.args.rows.now in
    let steps = none_of_value (λ (p : ClimbPlace). p) g.W.Word.most (steps_numbers s c.args.top.now rows) (basic_solution (climbing_shape s) rows) c.in_ok-solution.solution.steps c.in_ok-solution.ensures.exact in
    let exit = err_from_is_err_and c.from_residual-in_err-multipliers.result c.from_residual-in_err-multipliers.ensures.1 in
    rw (exit.1, exit.2) (fault_of_later {U = List ℤ × List ℤ} g.W.Word.most (steps_numbers s c.args.top.now rows) (columns_numbers s c.args.top.now rows) (weak_multipliers_at (climbing_shape s) rows, climbed_strict s rows) (optimum_of s rows) _ steps.0 c.in_err-multipliers.ensures.exact)

pub returns-clause-exact : goal.returns-clause-exact
returns-clause-exact g c =
    optimum_given g.W.Word.most c.args.s.now c.args.top.now c.args.rows.now (record { solution = c.in_ok-solution.solution; multipliers = c.in_ok-multipliers.multipliers }) c.in_ok-solution.ensures.exact c.in_ok-multipliers.ensures.exact
