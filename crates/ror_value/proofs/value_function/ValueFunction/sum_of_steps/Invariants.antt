use Rattle.std.proofs.Common.{◌≡◌}
use Rattle.ror_value.specs.Value.{marginal}
use Rattle.ror_value.proofs.value_function.ValueFunction.sum_of_steps.Given as goal

abbrev pub invariant-loop-step : goal.invariant-loop-step
invariant-loop-step l = l.sum ≡ marginal l.table l.self.steps l.i l.step
