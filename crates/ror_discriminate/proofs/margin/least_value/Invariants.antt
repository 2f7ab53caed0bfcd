use Rattle.ror_integers.specs.Vectors.{dots}
use Rattle.ror_system.specs.System.{IsNarrow}
use Rattle.ror_discriminate.proofs.Leasts.{IsLeastSoFar}
use Rattle.ror_discriminate.proofs.margin.least_value.Given as goal

abbrev pub invariant-loop-place : goal.invariant-loop-place
invariant-loop-place l = IsLeastSoFar l.least (dots l.s.strict l.steps) l.place × IsNarrow l.least
