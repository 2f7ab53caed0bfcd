-- What each step of the check of a repair leaves to the next.
use Rattle.std.specs.Prelude.{◌≡◌, ℕ, ◌<◌, List, slice_get, Some}
use Rattle.ror_statement.specs.declared.statement.Numbered.{Numbered}
use Rattle.ror_statement.specs.declared.statement.Statement.{Statement}
use Rattle.ror_table.specs.Table.{DecisionTable}
use Rattle.ror_system.specs.System.{LinearSystem}
use Rattle.ror_proof.specs.declared.answer.Certificate.{Certificate}
use Rattle.ror_proof.specs.declared.kept.Dropped.{Dropped}
use Rattle.ror_check.specs.declared.fault.RepairCheckFault.{RepairCheckFault}
use Rattle.ror_check.specs.declared.fault.RepairCheckFault.TheVariants as faults
use Rattle.ror_check.specs.Faults.{IsRejectedFor}
use Rattle.ror_check.specs.Repair.{kept_with, numbers_of, RefutesDropped}
use Rattle.ror_check.specs.RepairFaults.{FailsDropped, IsRefutationRejected}

-- each dropped statement before a place of the list is refuted by its multipliers
abbrev pub AreRefutedBefore : DecisionTable → List Numbered → List Dropped → ℕ → Type 0
AreRefutedBefore t list ds i = (j k : ℕ) (d : Dropped) (s : Numbered) → k < i
    → slice_get ds j ≡ Some d → slice_get list k ≡ Some s → d.number ≡ s.number
    → RefutesDropped t (kept_with (numbers_of ds) list k s) d

-- the multipliers of a dropped statement are refused for the system of these statements, or memory ran out
abbrev pub RefusesOne : DecisionTable → List Statement → Dropped → RepairCheckFault → Type 0
RefusesOne t list d (faults.Dropped n r) = (n ≡ d.number) × IsRefutationRejected t list d r
RefusesOne t list d faults.Memory = Unit {0}
RefusesOne t list d _ = ⊥

-- a dropped statement is refused, and those before it were not; or memory ran out
abbrev pub RefusesDropped : DecisionTable → List Numbered → List Dropped → RepairCheckFault → Type 0
RefusesDropped t list ds (faults.Dropped n r) = FailsDropped t list ds n r
    × ((m : ℕ) (q : _) → m < n → FailsDropped t list ds m q → ⊥)
RefusesDropped t list ds faults.Memory = Unit {0}
RefusesDropped t list ds _ = ⊥

-- the base is refused, or memory ran out
abbrev pub RefusesBaseOf : LinearSystem → Certificate → RepairCheckFault → Type 0
RefusesBaseOf s base (faults.Base r) = IsRejectedFor s base r
RefusesBaseOf s base faults.Memory = Unit {0}
RefusesBaseOf s base _ = ⊥
