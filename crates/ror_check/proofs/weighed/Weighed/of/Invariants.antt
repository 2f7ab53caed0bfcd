use Rattle.std.proofs.Common.{take}
use Rattle.ror_check.specs.Weighed.{StandsFor}
use Rattle.ror_check.proofs.weighed.Weighed.of.Given as goal

abbrev pub invariant-loop-i : goal.invariant-loop-i
invariant-loop-i l = StandsFor l.few.multipliers l.few.rows.items (take l.i l.multipliers) (take l.i l.rows)
