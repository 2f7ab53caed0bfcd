-- Each test of a repair's proof that may fail, and their order.
use Rattle.std.specs.Prelude.{◌≡◌, ℕ, ◌≤◌, List, slice_get, Some}
use Rattle.ror_text.specs.FirstFault.{IsFirst, IsEarlier}
use Rattle.ror_statement.specs.declared.statement.Numbered.{Numbered}
use Rattle.ror_statement.specs.declared.statement.Statement.{Statement}
use Rattle.ror_table.specs.Table.{DecisionTable}
use Rattle.ror_system.specs.Acceptance.{FailsMultipliers, IsEarlierTest}
use Rattle.ror_system.specs.declared.reject.Reject.{Reject}
use Rattle.ror_proof.specs.declared.kept.Dropped.{Dropped}
use Rattle.ror_proof.specs.declared.kept.Kept.{Kept}
use Rattle.ror_check.specs.declared.fault.RepairCheckFault.{RepairCheckFault}
use Rattle.ror_check.specs.declared.fault.RepairCheckFault.TheVariants as faults
use Rattle.ror_check.specs.Proof.{base_system}
use Rattle.ror_check.specs.Faults.{IsRejectedFor}
use Rattle.ror_statement.specs.Statements.{statements_in}
use Rattle.ror_check.specs.Repair.{AreNumbersIn, IsBaseKind, kept_of, kept_with, numbers_of}

-- the first reason for which the multipliers of a dropped statement are not accepted
abbrev pub IsRefutationRejected : DecisionTable → List Statement → Dropped → Reject → Type 0
IsRefutationRejected t list d r =
    IsFirst (FailsMultipliers (base_system t list) d.proof.weak d.proof.strict) IsEarlierTest r

-- The multipliers of the dropped statement with this number are not accepted for this reason, for the system of those kept
-- before it and itself. Were there several with the number, the first would count.
pub record FailsDropped (t : DecisionTable) (list : List Numbered) (ds : List Dropped) (n : ℕ)
    (r : Reject) : Type 0 where
  pub dropped : Dropped
  pub dropped_at : ℕ
  pub dropped_there : slice_get ds dropped_at ≡ Some dropped
  pub dropped_number : dropped.number ≡ n
  pub dropped_first : (j : ℕ) (d : Dropped) → slice_get ds j ≡ Some d → d.number ≡ n → dropped_at ≤ j
  pub statement : Numbered
  pub statement_at : ℕ
  pub statement_there : slice_get list statement_at ≡ Some statement
  pub statement_number : statement.number ≡ n
  pub statement_first : (k : ℕ) (s : Numbered) → slice_get list k ≡ Some s → s.number ≡ n
      → statement_at ≤ k
  pub rejected : IsRefutationRejected t (kept_with (numbers_of ds) list statement_at statement)
      dropped r

-- what each test finds at fault in a repair, each taken alone
abbrev pub FailsRepair : DecisionTable → List Numbered → Kept → RepairCheckFault → Type 0
FailsRepair t list x faults.WrongList = AreNumbersIn list (numbers_of x.dropped) → ⊥
FailsRepair t list x faults.WrongKind =
    IsBaseKind (kept_of (numbers_of x.dropped) list) x.base → ⊥
FailsRepair t list x (faults.Dropped n r) = FailsDropped t list x.dropped n r
FailsRepair t list x (faults.Base r) =
    IsRejectedFor (base_system t (statements_in (kept_of (numbers_of x.dropped) list))) x.base r
FailsRepair t list x faults.Memory = ⊥

abbrev pub repair_stage : RepairCheckFault → ℕ
repair_stage faults.WrongList = 0
repair_stage faults.WrongKind = 1
repair_stage (faults.Dropped n r) = 2
repair_stage _ = 3

-- the lesser of two numbers comes first
abbrev pub repair_place : RepairCheckFault → ℕ
repair_place (faults.Dropped n r) = n
repair_place _ = 0

abbrev pub IsEarlierRepairFault : RepairCheckFault → RepairCheckFault → Type 0
IsEarlierRepairFault = IsEarlier repair_stage repair_place
