use Rattle.ror_check.specs.Steps.{AreShownBefore, IsBaseOf, systems_with}
use Rattle.ror_check.proofs.check.check_parts.Given as goal

abbrev pub invariant-loop-i : goal.invariant-loop-i
invariant-loop-i l = AreShownBefore (systems_with l.table l.fn.base.system l.systems) l.parts l.i × IsBaseOf l.fn.base.system l.base
