-- Systems of linear inequalities and what solves them.
use Rattle.std.specs.Prelude.{◌≡◌, ℕ, ◌+◌, ◌^◌, ◌<◌, ◌≤◌, List, length, Some, slice_get, ℤ, unsigned_abs}
use Rattle.std.specs.List.{AllByRecursion}
use Rattle.ror_integers.specs.Vectors.{ones}
use Rattle.ror_integers.specs.Motzkin as motzkin
use Rattle.ror_system.specs.declared.limits.TheConstants.{MOST_COLUMNS, MOST_SYSTEM_ROWS}

-- weak rows, each to be at least 0, and strict rows, each to be above 0, over so many columns
pub record LinearSystem : Type 0 where
  pub columns : ℕ
  pub weak : List (List ℤ)
  pub strict : List (List ℤ)

-- no sum and no total has an absolute value of so much
abbrev pub sum_limit : ℕ
sum_limit = 2 ^ 127

-- of absolute value at most 2^127 - 1
abbrev pub IsNarrow : ℤ → Type 0
IsNarrow z = unsigned_abs z < sum_limit

-- within the limits, with one entry for each column in each row, and first among the strict rows the row of ones
pub record IsWellFormed (s : LinearSystem) : Type 0 where
  pub columns_limit : s.columns ≤ MOST_COLUMNS
  pub rows_limit : length s.weak + length s.strict ≤ MOST_SYSTEM_ROWS
  pub weak_widths : AllByRecursion (λ row. length row ≡ s.columns) s.weak
  pub strict_widths : AllByRecursion (λ row. length row ≡ s.columns) s.strict
  pub total_row : slice_get s.strict 0 ≡ Some (ones s.columns)

-- one number for each column, none below 0, at which every row is as it is to be
pub record Solves (s : LinearSystem) (d : List ℤ) : Type 0 where
  pub one_for_each_column : length d ≡ s.columns
  pub rows : motzkin.Solves s.weak s.strict d

abbrev pub IsSolvable : LinearSystem → Type 0
IsSolvable s = (d : List ℤ) × Solves s d

-- multipliers by which the rows sum to one that is to be above 0 and can not be, as no column of it is above 0
abbrev pub Refutes : LinearSystem → List ℤ → List ℤ → Type 0
Refutes s weak strict = motzkin.Refutes s.weak s.strict weak strict
