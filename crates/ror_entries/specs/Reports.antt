-- Which bytes are the proved entries of a report and its last line, and for what others are rejected.
use Rattle.std.specs.Prelude.{◌≡◌, ◌≢◌, ℕ, ◌+◌, ◌<◌, true, false, List, [], ◌∷◌, ◌++◌, length, drop, Ok, Err}
use Rattle.std.specs.List.{AllByRecursion, sum_by, flat_map}
use Rattle.ror_text.specs.Cursor.{cursor_at}
use Rattle.ror_proof.specs.declared.read.ProofFault.{ProofFault}
use Rattle.ror_report.specs.Reading.{begins_end, end_at}
use Rattle.ror_report.specs.Text.{end_text}
use Rattle.ror_bench.specs.Reports.{misread_reason}
use Rattle.ror_bench.specs.declared.report.Accepted.{Accepted}
use Rattle.ror_bench.specs.declared.report.Reason.{Reason}
use Rattle.ror_bench.specs.declared.report.Reason.TheVariants as reasons
use Rattle.ror_bench.specs.declared.report.Rejection.{Rejection}
use Rattle.ror_entries.specs.Kind.{Kind}

-- P holds of each entry and its place, the first one's being this
abbrev pub EachAt : {E : Type 0} → (ℕ → E → Type 0) → ℕ → List E → Type 0
EachAt P place [] = Unit {0}
EachAt P place (x ∷ xs) = P place x × EachAt P (place + 1) xs

-- how many answers of the entries have a proof, and how many are too wide
abbrev pub accepted_of : {E : Type 0} → Kind E → List E → Accepted
accepted_of kind entries = record {
  answers = sum_by (λ x. (kind.passed x).answers) entries;
  wide = sum_by (λ x. (kind.passed x).wide) entries;
}

-- the texts of the entries, and the last line with their number
abbrev pub entries_text : {E : Type 0} → Kind E → List E → List ℕ
entries_text kind entries = flat_map kind.text entries ++ end_text (length entries)

-- The bytes are the text of as many entries as are due, each proved at its place but for what is too wide, and the last line. So
-- many of their answers have a proof, and so many are too wide.
pub record IsProvedEntries {E : Type 0} (kind : Kind E) (bytes : List ℕ) (accepted : Accepted) : Type 0 where
  pub entries : List E
  pub all_due : length entries ≡ kind.count
  pub text : bytes ≡ entries_text kind entries
  pub printable : AllByRecursion kind.IsPrintable entries
  pub proved : EachAt kind.IsProved 0 entries
  pub counted : accepted ≡ accepted_of kind entries

-- The bytes are the text of these entries, as many as are due, each proved at its place but for what is too wide, and the last line.
pub record AreProvedEntries {E : Type 0} (kind : Kind E) (bytes : List ℕ) (entries : List E) : Type 0 where
  pub all_due : length entries ≡ kind.count
  pub text : bytes ≡ entries_text kind entries
  pub printable : AllByRecursion kind.IsPrintable entries
  pub proved : EachAt kind.IsProved 0 entries

-- each entry is true at its place
abbrev pub AreTrueEntries : {E : Type 0} → Kind E → List E → Type 0
AreTrueEntries kind entries = EachAt kind.IsTrue 0 entries

-- the bytes are so the text of proved entries, and these are true
pub record IsAcceptedEntries {E : Type 0} (kind : Kind E) (bytes : List ℕ) (accepted : Accepted) : Type 0 where
  pub proved : IsProvedEntries kind bytes accepted
  pub entries_true : AreTrueEntries kind proved.entries

-- ---- for what entries are rejected

-- The text from a byte on is rejected as the entry of a place: by its form, as a last line where an entry is due, or for the
-- entry's own reason.
pub data RejectsNext {E : Type 0} (kind : Kind E) (bytes : List ℕ) (place from : ℕ) (reason : Reason) : Type 0 where
  end_misread : (fault : ProofFault) → begins_end (drop from bytes) ≡ true
      → end_at (cursor_at bytes from) ≡ Err fault → reason ≡ misread_reason bytes fault
      → RejectsNext kind bytes place from reason
  ends_early : (n : ℕ) → begins_end (drop from bytes) ≡ true
      → end_at (cursor_at bytes from) ≡ Ok n → reason ≡ reasons.WrongBlock
      → RejectsNext kind bytes place from reason
  entry_misread : (fault : ProofFault) → begins_end (drop from bytes) ≡ false
      → kind.reads (cursor_at bytes from) ≡ Err fault → reason ≡ misread_reason bytes fault
      → RejectsNext kind bytes place from reason
  refused : (x : E) (after : ℕ) → begins_end (drop from bytes) ≡ false
      → kind.reads (cursor_at bytes from) ≡ Ok (x, cursor_at bytes after)
      → kind.Refuses place x reason → RejectsNext kind bytes place from reason

-- The text from a byte on is rejected as the last line after all entries that are due: by its form, as an entry too many, or for
-- its number.
pub data RejectsEnd {E : Type 0} (kind : Kind E) (bytes : List ℕ) (from : ℕ) (reason : Reason) : Type 0 where
  end_misread : (fault : ProofFault) → begins_end (drop from bytes) ≡ true
      → end_at (cursor_at bytes from) ≡ Err fault → reason ≡ misread_reason bytes fault
      → RejectsEnd kind bytes from reason
  miscounted : (n : ℕ) → begins_end (drop from bytes) ≡ true
      → end_at (cursor_at bytes from) ≡ Ok n → n ≢ kind.count → reason ≡ reasons.WrongBlock
      → RejectsEnd kind bytes from reason
  entry_misread : (fault : ProofFault) → begins_end (drop from bytes) ≡ false
      → kind.reads (cursor_at bytes from) ≡ Err fault → reason ≡ misread_reason bytes fault
      → RejectsEnd kind bytes from reason
  one_too_many : (x : E) (after : ℕ) → begins_end (drop from bytes) ≡ false
      → kind.reads (cursor_at bytes from) ≡ Ok (x, cursor_at bytes after)
      → reason ≡ reasons.WrongBlock → RejectsEnd kind bytes from reason

-- the reason of the first entry at fault, counted from 1 as a block, or of the last line, after the entries before the place
pub data IsRejectedFrom {E : Type 0} (kind : Kind E) (bytes : List ℕ) (rejection : Rejection) : ℕ → ℕ → Type 0 where
  at_entry : (place from : ℕ) → place < kind.count → rejection.block ≡ place + 1
      → RejectsNext kind bytes place from rejection.reason
      → IsRejectedFrom kind bytes rejection place from
  at_end : (place from : ℕ) → place ≡ kind.count → rejection.block ≡ place + 1
      → RejectsEnd kind bytes from rejection.reason → IsRejectedFrom kind bytes rejection place from
  later : (place from : ℕ) (x : E) (after : ℕ) → place < kind.count
      → begins_end (drop from bytes) ≡ false
      → kind.reads (cursor_at bytes from) ≡ Ok (x, cursor_at bytes after) → kind.IsProved place x
      → IsRejectedFrom kind bytes rejection (place + 1) after
      → IsRejectedFrom kind bytes rejection place from

-- the first fault of the entries that begin at a byte
abbrev pub IsRejectedEntries : {E : Type 0} → Kind E → List ℕ → ℕ → Rejection → Type 0
IsRejectedEntries kind bytes start rejection = IsRejectedFrom kind bytes rejection 0 start
