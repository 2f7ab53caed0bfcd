use Rattle.std.proofs.Common.{◌≤◌}
use Rattle.ror_warm.proofs.warm.bring_up.Given as goal

abbrev pub invariant-loop-place : goal.invariant-loop-place
invariant-loop-place l = l.fn.pivots ≤ l.pivots
