use Rattle.ror_value.proofs.Walks.{IsLeftOfValue}
use Rattle.ror_value.proofs.value_function.ValueFunction.value.Given as goal

abbrev pub invariant-loop-i : goal.invariant-loop-i
invariant-loop-i l = IsLeftOfValue l.table l.self.steps l.a l.sum l.i
