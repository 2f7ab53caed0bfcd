use Rattle.std.proofs.Common.{take}
use Rattle.ror_closing.specs.Closing.{AreSuited}
use Rattle.ror_closing.proofs.closing.first_unsuited.Given as goal

abbrev pub invariant-loop-line : goal.invariant-loop-line
invariant-loop-line l = AreSuited (take l.line-index l.lines)
