use Rattle.ror_system.proofs.MultiplierTests.{PassesColumnsBelow}
use Rattle.ror_system.proofs.accept.check_weights.Given as goal

abbrev pub invariant-loop-j : goal.invariant-loop-j
invariant-loop-j l = PassesColumnsBelow l.s l.weak l.strict l.j
