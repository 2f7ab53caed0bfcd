use Rattle.ror_check.specs.Proof.{base_system}
use Rattle.ror_check.specs.Steps.{AreProvedBefore, IsBaseOf}
use Rattle.ror_check.proofs.check.check_each.Given as goal

abbrev pub invariant-loop-place : goal.invariant-loop-place
invariant-loop-place l = AreProvedBefore l.table l.list l.answers l.place × IsBaseOf (base_system l.table l.list) l.base
