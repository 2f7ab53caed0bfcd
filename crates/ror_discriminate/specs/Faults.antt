-- Each test of an optimum that may fail, and their order. They are of a system, with what each of its columns counts.
use Rattle.std.specs.Prelude.{◌≡◌, ◌≢◌, ℕ, ◌+◌, ◌*◌, ◌<◌, ◌≤◌, List, [], ◌++◌, length, ℤ, pos, ◌*ℤ◌, ◌<ℤ◌, ◌⊎◌}
use Rattle.ror_integers.specs.Vectors.{dot, absolute_dot, total, entry, column, SomePositive}
use Rattle.ror_text.specs.FirstFault.{IsFirst, IsEarlier}
use Rattle.ror_system.specs.System.{LinearSystem, sum_limit, IsNarrow}
use Rattle.ror_system.specs.Acceptance.{rows_of, FailsSolution, IsEarlierTest}
use Rattle.ror_pivot.specs.Optimality.{strict_rows, least_value, total_by}
use Rattle.ror_pivot.specs.declared.optimum.Optimum.{Optimum}
use Rattle.ror_discriminate.specs.declared.fault.OptimalFault.{OptimalFault}
use Rattle.ror_discriminate.specs.declared.fault.OptimalFault.TheVariants as faults

-- what each test finds at fault, each test taken alone
abbrev pub FailsOptimal : LinearSystem → List ℤ → Optimum → OptimalFault → Type 0
FailsOptimal s tops x faults.NoStrictRow = strict_rows s ≡ []
FailsOptimal s tops x (faults.Solution r) = IsFirst (FailsSolution s x.solution.steps) IsEarlierTest r
FailsOptimal s tops x faults.Total = IsNarrow (total_by tops x.solution.steps) → ⊥
FailsOptimal s tops x faults.Length = (length x.multipliers.weak ≢ length s.weak)
    ⊎ (length x.multipliers.strict ≢ length s.strict)
FailsOptimal s tops x (faults.Negative k) =
    (k < length (x.multipliers.weak ++ x.multipliers.strict))
    × (entry (x.multipliers.weak ++ x.multipliers.strict) k <ℤ pos 0)
FailsOptimal s tops x faults.OnesRow = entry x.multipliers.strict 0 ≢ pos 0
FailsOptimal s tops x faults.NoStrict = SomePositive x.multipliers.strict → ⊥
FailsOptimal s tops x (faults.ScaleWide j) = (j < s.columns)
    × (IsNarrow (entry tops j *ℤ total x.multipliers.strict) → ⊥)
FailsOptimal s tops x (faults.ColumnWide j) = (j < s.columns)
    × (sum_limit
    ≤ absolute_dot (x.multipliers.weak ++ x.multipliers.strict) (column (rows_of s) j))
FailsOptimal s tops x (faults.Column j) = (j < s.columns)
    × ((least_value s x.solution.steps *ℤ (entry tops j *ℤ total x.multipliers.strict))
    <ℤ (total_by tops x.solution.steps
    *ℤ dot (x.multipliers.weak ++ x.multipliers.strict) (column (rows_of s) j)))
FailsOptimal s tops x faults.Memory = ⊥

-- the tests in their order; those of the columns come last, column by column
abbrev pub optimal_stage : OptimalFault → ℕ
optimal_stage faults.NoStrictRow = 0
optimal_stage (faults.Solution r) = 1
optimal_stage faults.Total = 2
optimal_stage faults.Length = 3
optimal_stage (faults.Negative k) = 4
optimal_stage faults.OnesRow = 5
optimal_stage faults.NoStrict = 6
optimal_stage _ = 7

-- in a stage the earlier place comes first, and of one column the scale, then the sum of the absolute terms, then the inequality
abbrev pub optimal_place : OptimalFault → ℕ
optimal_place (faults.Negative k) = k
optimal_place (faults.ScaleWide j) = 3 * j
optimal_place (faults.ColumnWide j) = 3 * j + 1
optimal_place (faults.Column j) = 3 * j + 2
optimal_place _ = 0

abbrev pub IsEarlierOptimalFault : OptimalFault → OptimalFault → Type 0
IsEarlierOptimalFault = IsEarlier optimal_stage optimal_place
