-- What was written of entries that are made one after another, and of their last line.
use Rattle.std.specs.Prelude.{◌≡◌, ℕ, ◌≤◌, Bool, nat_lt, List, length, Option, Result, Ok, Err}
use Rattle.std.specs.List.{AllByRecursion, flat_map}
use Rattle.ror_io.specs.Counts.{Rose}
use Rattle.ror_io.specs.Writing.{Grew, GrewShort}
use Rattle.ror_entries.specs.Kind.{Kind}
use Rattle.ror_entries.specs.Reports.{EachAt, accepted_of, entries_text}
use Rattle.ror_entries.specs.declared.write.EntriesStop.{EntriesStop}
use Rattle.ror_entries.specs.declared.write.EntriesStop.TheVariants as stops

-- the entries of the first places, each one that may be given at its place, and each has a text
pub record AreGivenEntries {E : Type 0} (kind : Kind E) (Given : ℕ → E → Type 0) (entries : List E) : Type 0 where
  pub within : length entries ≤ kind.count
  pub printable : AllByRecursion kind.IsPrintable entries
  pub given : EachAt Given 0 entries

-- the text of all entries that are due, each one that may be given at its place, and of the last line
pub record IsWholeText {E : Type 0} (kind : Kind E) (Given : ℕ → E → Type 0) (text : List ℕ) (entries : List E) : Type 0 where
  pub made : AreGivenEntries kind Given entries
  pub all_due : length entries ≡ kind.count
  pub text_is : text ≡ entries_text kind entries

-- how such a text begins: the texts of the entries of the first places
pub record IsFirstText {E : Type 0} (kind : Kind E) (Given : ℕ → E → Type 0) (text : List ℕ) (entries : List E) : Type 0 where
  pub made : AreGivenEntries kind Given entries
  pub text_is : text ≡ flat_map kind.text entries

-- the texts of the entries of the first places, or the whole text
pub data IsBegunText {E : Type 0} (kind : Kind E) (Given : ℕ → E → Type 0) (text : List ℕ) : Type 0 where
  some_entries : (entries : List E) → IsFirstText kind Given text entries → IsBegunText kind Given text
  all_entries : (entries : List E) → IsWholeText kind Given text entries → IsBegunText kind Given text

-- What was written: the whole text, and whether anything of it is too wide; a proper front of how it begins where a write failed;
-- or the texts of some first entries where memory ran out. The numbers are the sink's counts of faults.
abbrev pub WritesEntries : {E : Type 0} → Kind E → (ℕ → E → Type 0) → ℕ → ℕ → Option (List ℕ) → Option (List ℕ) → Result Bool EntriesStop → Type 0
WritesEntries {E} kind Given before now old new (Ok wide) = (now ≡ before) × (text : List ℕ)
    × (entries : List E) × IsWholeText kind Given text entries
    × (wide ≡ nat_lt 0 (accepted_of kind entries).wide) × Grew old new text
WritesEntries kind Given before now old new (Err stops.Write) = (before ≤ now) × Rose before now
    × (text : List ℕ) × IsBegunText kind Given text × GrewShort old new text
WritesEntries {E} kind Given before now old new (Err stops.Memory) = (now ≡ before) × (text : List ℕ)
    × (entries : List E) × IsFirstText kind Given text entries × Grew old new text

-- ---- the steps

-- what was written of the texts of the entries alone
abbrev pub MakesEntries : {E : Type 0} → Kind E → (ℕ → E → Type 0) → ℕ → ℕ → Option (List ℕ) → Option (List ℕ) → Result Bool EntriesStop → Type 0
MakesEntries {E} kind Given before now old new (Ok wide) = (now ≡ before) × (text : List ℕ)
    × (entries : List E) × IsFirstText kind Given text entries × (length entries ≡ kind.count)
    × (wide ≡ nat_lt 0 (accepted_of kind entries).wide) × Grew old new text
MakesEntries {E} kind Given before now old new (Err stops.Write) = (before ≤ now) × Rose before now
    × (text : List ℕ) × (entries : List E) × IsFirstText kind Given text entries
    × GrewShort old new text
MakesEntries {E} kind Given before now old new (Err stops.Memory) = (now ≡ before) × (text : List ℕ)
    × (entries : List E) × IsFirstText kind Given text entries × Grew old new text

-- what was written of a text: all of it, a proper front where the write failed, or nothing where memory ran out
abbrev pub WritesText : {A : Type 0} → List ℕ → ℕ → ℕ → Option (List ℕ) → Option (List ℕ) → Result A EntriesStop → Type 0
WritesText text before now old new (Ok x) = (now ≡ before) × Grew old new text
WritesText text before now old new (Err stops.Write) = (before ≤ now) × Rose before now
    × GrewShort old new text
WritesText text before now old new (Err stops.Memory) = (now ≡ before) × (new ≡ old)
