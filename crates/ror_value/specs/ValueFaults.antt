-- Which value functions are taken, each test of their steps that may fail, and the order of the tests.
use Rattle.std.specs.Prelude.{◌≢◌, ℕ, ◌<◌, List, length, ℤ, pos, ◌<ℤ◌}
use Rattle.ror_integers.specs.Vectors.{entry}
use Rattle.ror_text.specs.FirstFault.{IsEarlier}
use Rattle.ror_table.specs.Table.{DecisionTable, columns}
use Rattle.ror_system.specs.System.{IsNarrow}
use Rattle.ror_value.specs.declared.value_function.ValueFault.{ValueFault}
use Rattle.ror_value.specs.declared.value_function.ValueFault.TheVariants as faults
use Rattle.ror_value.specs.Value.{IsValueFunction, ideal_value}

-- a value function of the table whose ideal value is at most 2^127 - 1
pub record IsAcceptedFunction (t : DecisionTable) (w : List ℤ) : Type 0 where
  pub function : IsValueFunction t w
  pub total_within : IsNarrow (ideal_value t w)

-- what each test of the steps finds at fault, each test taken alone
abbrev pub FailsValue : DecisionTable → List ℤ → ValueFault → Type 0
FailsValue t w faults.Length = length w ≢ columns t
FailsValue t w (faults.Negative k) = (k < length w) × (entry w k <ℤ pos 0)
FailsValue t w faults.Total = ((pos 0 <ℤ ideal_value t w) × IsNarrow (ideal_value t w)) → ⊥
FailsValue t w faults.Memory = ⊥

-- the tests in their order
abbrev pub fault_stage : ValueFault → ℕ
fault_stage faults.Length = 0
fault_stage (faults.Negative k) = 1
fault_stage _ = 2

-- the earlier of two numbers below 0 comes first
abbrev pub fault_place : ValueFault → ℕ
fault_place (faults.Negative k) = k
fault_place _ = 0

abbrev pub IsEarlierFault : ValueFault → ValueFault → Type 0
IsEarlierFault = IsEarlier fault_stage fault_place
