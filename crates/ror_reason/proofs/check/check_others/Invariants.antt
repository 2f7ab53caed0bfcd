use Rattle.ror_reason.specs.CheckSteps.{AreProvedBefore}
use Rattle.ror_reason.proofs.check.check_others.Given as goal

abbrev pub invariant-loop-place : goal.invariant-loop-place
invariant-loop-place l = AreProvedBefore l.table l.list l.claim.question l.claim.conclusion l.numbers l.others l.place
