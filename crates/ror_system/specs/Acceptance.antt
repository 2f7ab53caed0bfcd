-- Which certificates are accepted, and each test that one may fail.
use Rattle.std.specs.Prelude.{◌≢◌, ℕ, ◌+◌, ◌*◌, ◌<◌, ◌≤◌, List, [], ◌++◌, length, ℤ, pos, ◌≤ℤ◌, ◌<ℤ◌, slice_index_or, ◌⊎◌}
use Rattle.std.specs.List.{AllByRecursion}
use Rattle.ror_integers.specs.Vectors.{dot, absolute_dot, total, entry, column, SomePositive}
use Rattle.ror_text.specs.FirstFault.{IsEarlier}
use Rattle.ror_system.specs.declared.reject.Reject.{Reject}
use Rattle.ror_system.specs.declared.reject.Reject.TheVariants as rejects
use Rattle.ror_system.specs.System.{LinearSystem, Solves, Refutes, sum_limit, IsNarrow}

-- all rows, weak ones first
abbrev pub rows_of : LinearSystem → List (List ℤ)
rows_of s = s.weak ++ s.strict

-- a solution whose sums stay within 2^127 - 1
pub record IsAcceptedSolution (s : LinearSystem) (d : List ℤ) : Type 0 where
  pub solves : Solves s d
  pub total_positive : pos 0 <ℤ total d
  pub total_within : IsNarrow (total d)
  pub rows_within : AllByRecursion (λ row. absolute_dot row d < sum_limit) (rows_of s)

-- multipliers that refute the system, with sums that stay within 2^127 - 1
pub record AreAcceptedMultipliers (s : LinearSystem) (weak strict : List ℤ) : Type 0 where
  pub refute : Refutes s weak strict
  pub columns_within : (j : ℕ) → absolute_dot (weak ++ strict) (column (rows_of s) j) < sum_limit

-- the row at a place among all rows, weak ones first
abbrev pub row_at : LinearSystem → ℕ → List ℤ
row_at s i = slice_index_or (rows_of s) i []

-- what each test of a solution finds at fault, each test taken alone
abbrev pub FailsSolution : LinearSystem → List ℤ → Reject → Type 0
FailsSolution s d rejects.Length = length d ≢ s.columns
FailsSolution s d (rejects.Negative k) = (k < length d) × (entry d k <ℤ pos 0)
FailsSolution s d rejects.Total = ((pos 0 <ℤ total d) × IsNarrow (total d)) → ⊥
FailsSolution s d (rejects.RowWide i) = (i < length (rows_of s))
    × (sum_limit ≤ absolute_dot (row_at s i) d)
FailsSolution s d (rejects.Row i) = ((i < length s.weak) × (dot (row_at s i) d <ℤ pos 0))
    ⊎ ((length s.weak ≤ i) × (i < length (rows_of s)) × (dot (row_at s i) d ≤ℤ pos 0))
FailsSolution s d _ = ⊥

-- the same of multipliers
abbrev pub FailsMultipliers : LinearSystem → List ℤ → List ℤ → Reject → Type 0
FailsMultipliers s weak strict rejects.Length = (length weak ≢ length s.weak)
    ⊎ (length strict ≢ length s.strict)
FailsMultipliers s weak strict (rejects.Negative k) = (k < length (weak ++ strict))
    × (entry (weak ++ strict) k <ℤ pos 0)
FailsMultipliers s weak strict rejects.NoStrict = SomePositive strict → ⊥
FailsMultipliers s weak strict (rejects.ColumnWide j) =
    sum_limit ≤ absolute_dot (weak ++ strict) (column (rows_of s) j)
FailsMultipliers s weak strict (rejects.Column j) =
    pos 0 <ℤ dot (weak ++ strict) (column (rows_of s) j)
FailsMultipliers s weak strict _ = ⊥

-- the tests in their order: length, signs, total or strict multipliers, then row by row or column by column
abbrev pub stage : Reject → ℕ
stage rejects.Length = 0
stage (rejects.Negative k) = 1
stage rejects.Total = 2
stage rejects.NoStrict = 2
stage _ = 3

-- in a stage the earlier place comes first, and at one place the sum of the absolute terms before the sign
abbrev pub place : Reject → ℕ
place (rejects.Negative k) = k
place (rejects.RowWide i) = 2 * i
place (rejects.Row i) = 2 * i + 1
place (rejects.ColumnWide j) = 2 * j
place (rejects.Column j) = 2 * j + 1
place _ = 0

abbrev pub IsEarlierTest : Reject → Reject → Type 0
IsEarlierTest = IsEarlier stage place
