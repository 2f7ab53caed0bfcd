-- The laws of a kind of entries.
use Rattle.std.specs.Prelude.{◌≡◌, ℕ, ◌<◌, ◌^◌, List, length, drop}
use Rattle.std.specs.List.{AllByRecursion}
use Rattle.std.specs.Str.{IsUtf8}
use Rattle.ror_bench.specs.declared.report.Accepted.{Accepted}
use Rattle.ror_bench.specs.declared.report.Rejection.{Rejection}
use Rattle.ror_entries.specs.Kind.{Kind, HasOneReason}
use Rattle.ror_entries.specs.Reports.{accepted_of, entries_text, AreProvedEntries, IsProvedEntries, IsRejectedEntries}
use Rattle.ror_entries.specs.Writing.{IsWholeText}

-- two lists of entries have two texts
abbrev pub EntriesHaveOneText : {E : Type 0} → Kind E → Type 0
EntriesHaveOneText {E} kind = (xs ys : List E) → AllByRecursion kind.IsPrintable xs
    → AllByRecursion kind.IsPrintable ys → entries_text kind xs ≡ entries_text kind ys → xs ≡ ys

-- entries that are kept of bytes are what a check of these accepts, and the bytes have one such list
pub record KeptAreProved {E : Type 0} (kind : Kind E) : Type 0 where
  pub proved : (bytes : List ℕ) (entries : List E) → AreProvedEntries kind bytes entries
      → IsProvedEntries kind bytes (accepted_of kind entries)
  pub one_list : (bytes : List ℕ) (xs ys : List E) → AreProvedEntries kind bytes xs → AreProvedEntries kind bytes ys → xs ≡ ys

-- what is rejected is not proved
abbrev pub RejectedIsNotProved : {E : Type 0} → Kind E → Type 0
RejectedIsNotProved kind = (bytes : List ℕ) (start : ℕ) (rejection : Rejection) (accepted : Accepted)
    → IsRejectedEntries kind bytes start rejection
    → IsProvedEntries kind (drop start bytes) accepted → ⊥

-- proved entries have one count of answers that have a proof, and one of those too wide
abbrev pub HasOneCount : {E : Type 0} → Kind E → Type 0
HasOneCount kind = (bytes : List ℕ) (one other : Accepted) → IsProvedEntries kind bytes one
    → IsProvedEntries kind bytes other → one ≡ other

-- where each entry is refused for one reason, bytes are rejected for one first fault
abbrev pub HasOneRejection : {E : Type 0} → Kind E → Type 0
HasOneRejection kind = HasOneReason kind → (bytes : List ℕ) (start : ℕ) (one other : Rejection)
    → IsRejectedEntries kind bytes start one → IsRejectedEntries kind bytes start other → one ≡ other

-- the text of entries is UTF-8
abbrev pub EntriesAreUtf8 : {E : Type 0} → Kind E → Type 0
EntriesAreUtf8 {E} kind = (entries : List E) → AllByRecursion kind.IsPrintable entries
    → length entries < 2 ^ 32 → IsUtf8 (entries_text kind entries)

-- where what may be given at a place is proved there, what is written is the text of proved entries
abbrev pub GivenAreProved : {E : Type 0} → Kind E → (ℕ → E → Type 0) → Type 0
GivenAreProved {E} kind Given = ((place : ℕ) (x : E) → Given place x → kind.IsProved place x)
    → (text : List ℕ) (entries : List E) → IsWholeText kind Given text entries
    → IsProvedEntries kind text (accepted_of kind entries)
