use Rattle.std.proofs.Common.{◌≡◌, ℕ, ◌<◌, ◌≤ℤ◌, List, map, pos}
use Rattle.ror_integers.specs.Vectors.{entry}
use Rattle.ror_system.proofs.Others.{IsWalked}
use Rattle.ror_system.proofs.steps.is_some_positive.Given as goal

abbrev pub invariant-loop-i : goal.invariant-loop-i
invariant-loop-i l = (places : List ℕ) × (l.values ≡ map (entry l.numbers) places)
    × IsWalked l.numbers places l.i (λ from. (k : ℕ) → k < from → entry l.numbers k ≤ℤ pos 0)
