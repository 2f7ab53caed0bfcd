-- Few rows in the place of all: those that multipliers weigh.
use Rattle.std.specs.Prelude.{◌≡◌, ℕ, ◌≤◌, List, length, slice_get, ℤ}
use Rattle.std.specs.List.{AllByRecursion}
use Rattle.ror_integers.specs.Vectors.{dot, absolute_dot, column, NoneNegative, SomePositive}

-- The few rows with their multipliers come to the same in each column as the rows with theirs, the first row is the same, and
-- where none of the few multipliers is below 0, or one above 0, it is so of all.
pub record StandsFor (ns : List ℤ) (few : List (List ℤ)) (ms : List ℤ)
    (rows : List (List ℤ)) : Type 0 where
  pub as_many : length ms ≡ length rows
  pub as_many_few : length ns ≡ length few
  pub fewer : length few ≤ length rows
  pub first : slice_get few 0 ≡ slice_get rows 0
  pub widths : (n : ℕ) → AllByRecursion (λ row. length row ≡ n) rows
      → AllByRecursion (λ row. length row ≡ n) few
  pub sums : (j : ℕ) → dot ns (column few j) ≡ dot ms (column rows j)
  pub absolute_sums : (j : ℕ) → absolute_dot ns (column few j) ≡ absolute_dot ms (column rows j)
  pub none_negative : NoneNegative ns → NoneNegative ms
  pub some_positive : SomePositive ns → SomePositive ms
