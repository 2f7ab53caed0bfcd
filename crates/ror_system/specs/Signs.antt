-- The first number below 0 of a list.
use Rattle.std.specs.Prelude.{ℕ, ◌<◌, List, length, ℤ, pos, ◌≤ℤ◌, ◌<ℤ◌}
use Rattle.ror_integers.specs.Vectors.{entry}

-- the number at this place is below 0, and none before it is
pub record IsFirstNegative (xs : List ℤ) (k : ℕ) : Type 0 where
  pub within : k < length xs
  pub negative : entry xs k <ℤ pos 0
  pub none_before : (j : ℕ) → j < k → pos 0 ≤ℤ entry xs j
