use Rattle.ror_discriminate.specs.Steps.{PassesBelow}
use Rattle.ror_discriminate.proofs.check.check_system.Given as goal

abbrev pub invariant-loop-column : goal.invariant-loop-column
invariant-loop-column l = PassesBelow l.s l.top l.x l.column
