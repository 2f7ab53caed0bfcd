-- Reports that begin with a first line, behind which their entries stand.
use Rattle.std.specs.Prelude.{◌≡◌, ℕ, ◌≤◌, Bool, true, false, nat_eq, nat_lt, List, ◌++◌, length, Option, Result, Ok, Err}
use Rattle.std.specs.List.{starts_with}
use Rattle.std.specs.Str.{IsUtf8}
use Rattle.ror_io.specs.Counts.{Rose}
use Rattle.ror_io.specs.Writing.{Grew, GrewShort}
use Rattle.ror_bench.specs.declared.report.Accepted.{Accepted}
use Rattle.ror_bench.specs.declared.report.Reason.TheVariants as reasons
use Rattle.ror_bench.specs.declared.report.Rejection.{Rejection}
use Rattle.ror_entries.specs.declared.write.EntriesStop.{EntriesStop}
use Rattle.ror_entries.specs.declared.write.EntriesStop.TheVariants as stops
use Rattle.ror_entries.specs.Kind.{Kind}
use Rattle.ror_entries.specs.Reports.{accepted_of, IsProvedEntries, IsAcceptedEntries, IsRejectedEntries}
use Rattle.ror_entries.specs.Writing.{IsWholeText, IsBegunText}

-- the bytes are the head, and behind it stands what this is said of
abbrev pub BehindHead : List ℕ → List ℕ → (List ℕ → Type 0) → Type 0
BehindHead head bytes P = (body : List ℕ) × (bytes ≡ head ++ body) × P body

-- the bytes are the head and proved entries but for what is too wide: so many answers have a proof, and so many are too wide
abbrev pub IsProvedHeaded : {E : Type 0} → List ℕ → Kind E → List ℕ → Accepted → Type 0
IsProvedHeaded head kind bytes accepted = BehindHead head bytes (λ body. IsProvedEntries kind body accepted)

-- the same, and each entry is true
abbrev pub IsAcceptedHeaded : {E : Type 0} → List ℕ → Kind E → List ℕ → Accepted → Type 0
IsAcceptedHeaded head kind bytes accepted = BehindHead head bytes (λ body. IsAcceptedEntries kind body accepted)

-- For what other bytes are rejected: they are no text; begin with another line; or are at fault first in an entry, counted from 1 as
-- a block, or in the last line.
pub data IsRejectedHeaded {E : Type 0} (head : List ℕ) (kind : Kind E) (bytes : List ℕ) (rejection : Rejection) : Type 0 where
  not_utf8 : ¬ (IsUtf8 bytes) → rejection ≡ record { block = 0; reason = reasons.NotUtf8 }
      → IsRejectedHeaded head kind bytes rejection
  other_head : IsUtf8 bytes → starts_with nat_eq bytes head ≡ false
      → rejection ≡ record { block = 0; reason = reasons.BadLine 1 } → IsRejectedHeaded head kind bytes rejection
  in_entries : IsUtf8 bytes → starts_with nat_eq bytes head ≡ true
      → IsRejectedEntries kind bytes (length head) rejection → IsRejectedHeaded head kind bytes rejection

-- What was written: the head and the whole text of the entries, and whether anything of it is too wide; a proper front of the head
-- and of how the entries begin where a write failed; or the head and how they begin where memory ran out. The numbers are the
-- sink's counts of faults.
abbrev pub WritesHeaded : {E : Type 0} → List ℕ → Kind E → (ℕ → E → Type 0) → ℕ → ℕ → Option (List ℕ) → Option (List ℕ) → Result Bool EntriesStop → Type 0
WritesHeaded {E} head kind Given before now old new (Ok wide) = (now ≡ before) × (body : List ℕ)
    × (entries : List E) × IsWholeText kind Given body entries
    × (wide ≡ nat_lt 0 (accepted_of kind entries).wide) × Grew old new (head ++ body)
WritesHeaded head kind Given before now old new (Err stops.Write) = (before ≤ now) × Rose before now
    × (body : List ℕ) × IsBegunText kind Given body × GrewShort old new (head ++ body)
WritesHeaded head kind Given before now old new (Err stops.Memory) = (now ≡ before)
    × (body : List ℕ) × IsBegunText kind Given body × Grew old new (head ++ body)
