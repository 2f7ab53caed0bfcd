use Rattle.std.proofs.Common.{ℕ, ◌<◌, ◌≤ℤ◌, pos}
use Rattle.ror_integers.specs.Vectors.{entry}
use Rattle.ror_system.proofs.Others.{IsWalked}
use Rattle.ror_system.proofs.steps.first_negative_of.Given as goal

abbrev pub invariant-loop-i : goal.invariant-loop-i
invariant-loop-i l = IsWalked l.numbers l.places l.i (λ from. (k : ℕ) → k < from → pos 0 ≤ℤ entry l.numbers k)
