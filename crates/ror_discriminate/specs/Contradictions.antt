-- Which multipliers show that a list is contradictory, each test of them that may fail, and the order of the tests.
use Rattle.std.specs.Prelude.{◌≡◌, ◌≢◌, ℕ, List, []}
use Rattle.ror_text.specs.FirstFault.{IsFirst, IsEarlier}
use Rattle.ror_statement.specs.declared.statement.Statement.{Statement}
use Rattle.ror_table.specs.Table.{DecisionTable}
use Rattle.ror_system.specs.Acceptance.{AreAcceptedMultipliers, FailsMultipliers, IsEarlierTest}
use Rattle.ror_system.specs.declared.accept.Multipliers.{Multipliers}
use Rattle.ror_value.specs.Meaning.{IsContradictory}
use Rattle.ror_check.specs.Proof.{base_system}
use Rattle.ror_discriminate.specs.Margin.{strict_comparisons}
use Rattle.ror_discriminate.specs.declared.fault.ContradictionFault.{ContradictionFault}
use Rattle.ror_discriminate.specs.declared.fault.ContradictionFault.TheVariants as faults

-- The list says something strictly and is contradictory, as these multipliers show.
pub record IsShownContradictory (t : DecisionTable) (list : List Statement) (m : Multipliers) : Type 0 where
  pub says_strictly : strict_comparisons list ≢ []
  pub contradictory : IsContradictory t list
  pub accepted : AreAcceptedMultipliers (base_system t list) m.weak m.strict

-- what each test finds at fault, each test taken alone
abbrev pub FailsContradiction : DecisionTable → List Statement → Multipliers → ContradictionFault → Type 0
FailsContradiction t list m faults.NoStrictRow = strict_comparisons list ≡ []
FailsContradiction t list m (faults.Multipliers r) =
    IsFirst (FailsMultipliers (base_system t list) m.weak m.strict) IsEarlierTest r
FailsContradiction t list m faults.Memory = ⊥

abbrev pub contradiction_stage : ContradictionFault → ℕ
contradiction_stage faults.NoStrictRow = 0
contradiction_stage _ = 1

abbrev pub IsEarlierContradictionFault : ContradictionFault → ContradictionFault → Type 0
IsEarlierContradictionFault = IsEarlier contradiction_stage (λ fault. 0)
