use Rattle.std.proofs.Common.{pos}
use Rattle.ror_system.proofs.Sums.{IsLeft}
use Rattle.ror_system.proofs.Others.{IsWalked}
use Rattle.ror_system.proofs.sum.row_at_steps.Given as goal

abbrev pub invariant-loop-i : goal.invariant-loop-i
invariant-loop-i l = IsWalked l.steps l.places l.i (λ from. IsLeft l.sum.value (pos 0) l.sum.width 0 l.row l.steps from)
