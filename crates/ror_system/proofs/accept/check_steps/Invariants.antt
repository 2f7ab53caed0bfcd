use Rattle.ror_system.proofs.SolutionTests.{PassesRowsBelow}
use Rattle.ror_system.proofs.accept.check_steps.Given as goal

abbrev pub invariant-loop-place : goal.invariant-loop-place
invariant-loop-place l = PassesRowsBelow l.s l.steps l.place
