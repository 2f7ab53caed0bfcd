use Rattle.ror_value.proofs.Walks.{IsLeftOfIdeal}
use Rattle.ror_value.proofs.value_function.ideal_value.Given as goal

abbrev pub invariant-loop-column : goal.invariant-loop-column
invariant-loop-column l = IsLeftOfIdeal l.table l.steps l.sum l.column
