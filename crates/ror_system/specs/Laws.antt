-- Laws of acceptance: no system has both certificates, a certificate is accepted where no test fails, and a first reason is one.
-- And what the limits of a system are.
use Rattle.std.specs.Prelude.{◌≡◌, List, ℤ, ◌↔◌}
use Rattle.ror_text.specs.FirstFault.{IsFirst}
use Rattle.ror_system.specs.declared.limits.TheConstants.{MOST_COLUMNS, MOST_SYSTEM_ROWS}
use Rattle.ror_system.specs.declared.reject.Reject.{Reject}
use Rattle.ror_system.specs.System.{LinearSystem, IsSolvable, Refutes}
use Rattle.ror_system.specs.Acceptance.{IsAcceptedSolution, AreAcceptedMultipliers, FailsSolution, FailsMultipliers, IsEarlierTest}

-- where some multipliers refute a system it has no solution
abbrev pub NeverBoth : Type 0
NeverBoth = (s : LinearSystem) (weak strict : List ℤ) → Refutes s weak strict → ¬ (IsSolvable s)

-- a certificate is accepted exactly where none of its tests fails
pub record NoTestFails : Type 0 where
  pub of_solutions : (s : LinearSystem) (d : List ℤ) → IsAcceptedSolution s d
      ↔ ((r : Reject) → ¬ (FailsSolution s d r))
  pub of_multipliers : (s : LinearSystem) (weak strict : List ℤ)
      → AreAcceptedMultipliers s weak strict ↔ ((r : Reject) → ¬ (FailsMultipliers s weak strict r))

-- two first reasons are equal
pub record OneFirstReason : Type 0 where
  pub of_solutions : (s : LinearSystem) (d : List ℤ) (q r : Reject)
      → IsFirst (FailsSolution s d) IsEarlierTest q → IsFirst (FailsSolution s d) IsEarlierTest r
      → q ≡ r
  pub of_multipliers : (s : LinearSystem) (weak strict : List ℤ) (q r : Reject)
      → IsFirst (FailsMultipliers s weak strict) IsEarlierTest q
      → IsFirst (FailsMultipliers s weak strict) IsEarlierTest r → q ≡ r

abbrev pub LimitsAre : Type 0
LimitsAre = (MOST_COLUMNS ≡ 2000) × (MOST_SYSTEM_ROWS ≡ 2200)
