-- Weak and strict rows: a vector that solves them, multipliers that refute them, and that no rows have both.
use Rattle.std.specs.Prelude.{◌≡◌, ℕ, List, ◌++◌, length, ℤ, pos, ◌≤ℤ◌, ◌<ℤ◌}
use Rattle.std.specs.List.{AllByRecursion}
use Rattle.ror_integers.specs.Vectors.{dot, column, NoneNegative, SomePositive}

-- no entry of x is below 0, each weak row's dot product with x is at least 0, each strict row's above 0
pub record Solves (weak strict : List (List ℤ)) (x : List ℤ) : Type 0 where
  pub none_negative : NoneNegative x
  pub weak_hold : AllByRecursion (λ row. pos 0 ≤ℤ dot row x) weak
  pub strict_hold : AllByRecursion (λ row. pos 0 <ℤ dot row x) strict

-- a multiplier for each row, none below 0, that of some strict row above 0, and no column's weighted sum is above 0
pub record Refutes (weak strict : List (List ℤ)) (ms zs : List ℤ) : Type 0 where
  pub as_many_weak : length ms ≡ length weak
  pub as_many_strict : length zs ≡ length strict
  pub none_negative : NoneNegative (ms ++ zs)
  pub some_positive : SomePositive zs
  pub columns : (j : ℕ) → dot (ms ++ zs) (column (weak ++ strict) j) ≤ℤ pos 0

-- no rows have both
abbrev pub NeverBoth : Type 0
NeverBoth =
    (weak strict : List (List ℤ)) (ms zs x : List ℤ) → Refutes weak strict ms zs
    → ¬ (Solves weak strict x)
