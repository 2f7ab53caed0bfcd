use Rattle.std.proofs.Common.{◌≡◌, ℕ, List, map}
use Rattle.ror_integers.specs.Vectors.{entry}
use Rattle.ror_system.proofs.Totals.{IsLeftOfTotal}
use Rattle.ror_system.proofs.Others.{IsWalked}
use Rattle.ror_system.proofs.steps.positive_total.Given as goal

abbrev pub invariant-loop-i : goal.invariant-loop-i
invariant-loop-i l = (places : List ℕ) × (l.values ≡ map (entry l.numbers) places)
    × IsWalked l.numbers places l.i (λ from. IsLeftOfTotal l.sum l.numbers from)
