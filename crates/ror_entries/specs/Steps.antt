-- What each step of a check of entries leaves to the next, and the error that a fault is.
use Rattle.std.specs.Prelude.{◌≡◌, ◌⊎◌, ℕ, ◌+◌, false, List, ◌++◌, length, drop, Ok, Err}
use Rattle.std.specs.List.{AllByRecursion, flat_map}
use Rattle.ror_text.specs.Cursor.{cursor_at}
use Rattle.ror_proof.specs.declared.read.ProofFault.{ProofFault}
use Rattle.ror_report.specs.Reading.{begins_end}
use Rattle.ror_bench.specs.Reports.{misread_reason}
use Rattle.ror_bench.specs.Steps.{rejected}
use Rattle.ror_bench.specs.declared.bench.Passed.{Passed}
use Rattle.ror_bench.specs.declared.report.Reason.{Reason}
use Rattle.ror_bench.specs.declared.report.Reason.TheVariants as reasons
use Rattle.ror_bench.specs.declared.report.ReportError.{ReportError}
use Rattle.ror_bench.specs.declared.report.ReportError.TheVariants as errors
use Rattle.ror_entries.specs.declared.check.EntryFault.{EntryFault}
use Rattle.ror_entries.specs.declared.check.EntryFault.TheVariants as faults
use Rattle.ror_report.specs.Text.{end_text}
use Rattle.ror_bench.specs.declared.report.Accepted.{Accepted}
use Rattle.ror_entries.specs.Kind.{Kind}
use Rattle.ror_entries.specs.Reports.{EachAt, accepted_of}

-- what is said of the reason of a fault, if it is one: want of memory is an answer of its own
abbrev pub IfRefused : (Reason → Type 0) → EntryFault → Type 0
IfRefused P (faults.Refused reason) = P reason
IfRefused P faults.Memory = Unit {0}

-- the entry stands at the byte and ends at the other, it is proved at its place, and so many of its answers have a proof
pub record IsEntryAt {E : Type 0} (kind : Kind E) (bytes : List ℕ) (place from : ℕ) (entry : E) (passed : Passed) (after : ℕ) : Type 0 where
  pub no_end : begins_end (drop from bytes) ≡ false
  pub read : kind.reads (cursor_at bytes from) ≡ Ok (entry, cursor_at bytes after)
  pub proved : kind.IsProved place entry
  pub counted : passed ≡ kind.passed entry

-- an entry stands at the byte and ends at the other, it is proved at its place, and so many of its answers have a proof
pub record IsNextEntry {E : Type 0} (kind : Kind E) (bytes : List ℕ) (place from : ℕ) (passed : Passed) (after : ℕ) : Type 0 where
  pub entry : E
  pub no_end : begins_end (drop from bytes) ≡ false
  pub read : kind.reads (cursor_at bytes from) ≡ Ok (entry, cursor_at bytes after)
  pub proved : kind.IsProved place entry
  pub counted : passed ≡ kind.passed entry

-- an entry stands at the byte, where the last line is due
abbrev pub IsLateEntry : {E : Type 0} → Kind E → List ℕ → ℕ → Reason → Type 0
IsLateEntry {E} kind bytes from reason = ((x : E) × (after : ℕ)
    × (kind.reads (cursor_at bytes from) ≡ Ok (x, cursor_at bytes after))
    × (reason ≡ reasons.WrongBlock)) ⊎ ((fault : ProofFault)
    × (kind.reads (cursor_at bytes from) ≡ Err fault) × (reason ≡ misread_reason bytes fault))

-- the error of an entry that is refused
abbrev pub refused_error : ℕ → EntryFault → ReportError
refused_error block (faults.Refused reason) = rejected block reason
refused_error block faults.Memory = errors.Memory

-- ---- what is left of a report

-- the bytes are the texts of the entries that are due from a place on, each proved at its place, and the last line
pub record IsRest {E : Type 0} (kind : Kind E) (place : ℕ) (bytes : List ℕ) (accepted : Accepted) : Type 0 where
  pub entries : List E
  pub all_due : place + length entries ≡ kind.count
  pub text : bytes ≡ flat_map kind.text entries ++ end_text kind.count
  pub printable : AllByRecursion kind.IsPrintable entries
  pub proved : EachAt kind.IsProved place entries
  pub counted : accepted ≡ accepted_of kind entries
