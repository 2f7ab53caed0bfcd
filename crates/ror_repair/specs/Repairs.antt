-- Which repairs are given at a width, and what is said where a number is too wide.
use Rattle.std.specs.Prelude.{◌≡◌, ℕ, List, take, slice_get, Some}
use Rattle.std.specs.List.{AllByRecursion}
use Rattle.ror_statement.specs.declared.statement.Statement.{Statement}
use Rattle.ror_statement.specs.declared.statement.Numbered.{Numbered}
use Rattle.ror_table.specs.Table.{DecisionTable}
use Rattle.ror_proof.specs.declared.answer.Certificate.{Certificate}
use Rattle.ror_proof.specs.declared.answer.Certificate.TheVariants as certificates
use Rattle.ror_proof.specs.declared.answer.WideText.{WideText}
use Rattle.ror_proof.specs.declared.kept.Dropped.{Dropped}
use Rattle.ror_proof.specs.declared.kept.Kept.{Kept}
use Rattle.ror_check.specs.Proof.{base_system}
use Rattle.ror_check.specs.Repair.{kept_with, IsRepair, IsProvedRepair}
use Rattle.ror_check.specs.Steps.{IsAcceptedFor}
use Rattle.ror_given.specs.Notes.{HasNoteAt}
use Rattle.ror_given.specs.Answers.{IsCertificateWithin}
use Rattle.ror_repair.specs.declared.fault.RepairFault.{RepairFault}
use Rattle.ror_repair.specs.declared.fault.RepairFault.TheVariants as faults

-- no number of the multipliers passes most
abbrev pub IsDroppedWithin : ℕ → Dropped → Type 0
IsDroppedWithin most d = IsCertificateWithin most (certificates.Multipliers d.proof)

-- no number of a certificate of the repair passes most
pub record IsKeptWithin (most : ℕ) (x : Kept) : Type 0 where
  pub dropped : AllByRecursion (IsDroppedWithin most) x.dropped
  pub base : IsCertificateWithin most x.base

-- the repair is proved, and no number of its certificates passes most
pub record IsGivenRepair (most : ℕ) (t : DecisionTable) (list : List Numbered) (x : Kept) : Type 0 where
  pub proved : IsProvedRepair t list x
  pub narrow : IsKeptWithin most x

-- the system of these statements accepts the certificate, and no number of it passes most
abbrev pub IsBaseAt : ℕ → DecisionTable → List Statement → Certificate → Type 0
IsBaseAt most t kept x = IsAcceptedFor (base_system t kept) x × IsCertificateWithin most x

-- A statement with the number stands. The note names the first number that passes most on the path of the system of the
-- statements that the repair of those before it keeps, and of itself.
pub record IsWideRepair (most : ℕ) (t : DecisionTable) (list : List Numbered) (number : ℕ)
    (note : WideText) : Type 0 where
  pub place : ℕ
  pub statement : Numbered
  pub there : slice_get list place ≡ Some statement
  pub numbered : statement.number ≡ number
  pub dropped : List ℕ
  pub repaired : IsRepair t (take place list) dropped
  pub noted : HasNoteAt most (base_system t (kept_with dropped list place statement)) note

-- a number is too wide, or memory ran out
abbrev pub IsFaultOf : ℕ → DecisionTable → List Numbered → RepairFault → Type 0
IsFaultOf most t list (faults.Wide number note) = IsWideRepair most t list number note
IsFaultOf most t list faults.Memory = Unit {0}
