use Rattle.std.proofs.Common.{take}
use Rattle.ror_work_levels.proofs.Suits.{AreFitAt}
use Rattle.ror_work_levels.proofs.fit.first_unfit.Given as goal

abbrev pub invariant-loop-line : goal.invariant-loop-line
invariant-loop-line l = AreFitAt l.desk (take l.line-index l.lines)
