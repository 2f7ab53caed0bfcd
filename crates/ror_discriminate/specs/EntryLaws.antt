-- The laws of entries and their texts.
use Rattle.std.specs.Prelude.{◌≡◌, ◌↔◌, ℕ, ◌+◌, ℤ, List, ◌++◌, length, Ok, Err, codes}
use Rattle.std.specs.List.{AllByRecursion}
use Rattle.std.specs.Str.{IsUtf8}
use Rattle.ror_text.specs.Cursor.{Cursor}
use Rattle.ror_word.specs.Within.{IsWithin}
use Rattle.ror_system.specs.System.{LinearSystem, IsNarrow, IsWellFormed}
use Rattle.ror_system.specs.declared.accept.Multipliers.{Multipliers}
use Rattle.ror_table.specs.Table.{DecisionTable}
use Rattle.ror_pivot.specs.declared.note.Bits.{Bits}
use Rattle.ror_pivot.specs.declared.note.SolveFault.TheVariants.{Wide}
use Rattle.ror_pivot.specs.declared.note.WideNote.{WideNote}
use Rattle.ror_pivot.specs.declared.optimum.Optimum.{Optimum}
use Rattle.ror_pivot.specs.declared.optimum.ClimbNote.{ClimbNote}
use Rattle.ror_pivot.specs.declared.optimum.ClimbFault.TheVariants as climb_faults
use Rattle.ror_pivot.specs.Climbing.{IsClimbNoteWithin}
use Rattle.ror_pivot.specs.Answers.{most_of, IsNoteWithin}
use Rattle.ror_pivot.specs.Optimality.{IsNarrowOptimum}
use Rattle.ror_proof.specs.declared.read.ProofFault.{ProofFault}
use Rattle.ror_discriminate.specs.declared.entry.Entry.{Entry}
use Rattle.ror_discriminate.specs.declared.entry.EntryBody.TheVariants as bodies
use Rattle.ror_discriminate.specs.Text.{entry_text, IsPrintableBody, IsPrintableEntry}
use Rattle.ror_discriminate.specs.Reading.{entry_at}
use Rattle.ror_discriminate.specs.EntryFaults.{IsFaultOfEntry}

-- from the cursor on stands the text of an entry that has one, whatever follows
pub record IsEntryText (c : Cursor) (x : Entry) (after : Cursor) : Type 0 where
  pub text : c.rest ≡ entry_text x ++ after.rest
  pub place : after.place ≡ c.place + length (entry_text x)
  pub printable : IsPrintableEntry x

-- an entry is read exactly where its text stands
abbrev pub EntriesAreTheirTexts : Type 0
EntriesAreTheirTexts = (c : Cursor) (x : Entry) (after : Cursor)
    → (entry_at c ≡ Ok (x, after)) ↔ IsEntryText c x after

-- two entries have two texts, whatever follows each
abbrev pub EntriesHaveOneText : Type 0
EntriesHaveOneText = (x y : Entry) (more rest : List ℕ) → IsPrintableEntry x → IsPrintableEntry y
    → entry_text x ++ more ≡ entry_text y ++ rest → x ≡ y

-- each text begins with the word `desk`
abbrev pub EntriesBeginWithDesk : Type 0
EntriesBeginWithDesk = (x : Entry) → (more : List ℕ) × (entry_text x ≡ codes "desk" ++ more)

abbrev pub EntriesAreUtf8 : Type 0
EntriesAreUtf8 = (x : Entry) → IsPrintableEntry x → IsUtf8 (entry_text x)

-- the fault that is given is that of the first faulty word of the first faulty line, whatever the table
abbrev pub EntriesFailFirst : Type 0
EntriesFailFirst = (t : DecisionTable) (c : Cursor) (fault : ProofFault)
    → (entry_at c ≡ Err fault) ↔ IsFaultOfEntry t c fault

-- What is found at a width has a text: an optimum and multipliers of which no number passes the width, and the note of a system
-- within the limits.
pub record FoundBodiesHaveTexts : Type 0 where
  pub best : (bits : Bits) (margin total : ℤ) (x : Optimum) → IsNarrow margin → IsNarrow total
      → IsNarrowOptimum (most_of bits) x → IsPrintableBody (bodies.Best margin total x)
  pub contradiction : (bits : Bits) (m : Multipliers) → AllByRecursion (IsWithin (most_of bits)) m.weak
      → AllByRecursion (IsWithin (most_of bits)) m.strict → IsPrintableBody (bodies.Contradiction m)
  pub base_wide : (s : LinearSystem) (note : WideNote) → IsWellFormed s → IsNoteWithin s (Wide note)
      → IsPrintableBody (bodies.BaseWide note)
  pub climb_wide : (s : LinearSystem) (note : ClimbNote) → IsWellFormed s → IsClimbNoteWithin s (climb_faults.Wide note)
      → IsPrintableBody (bodies.ClimbWide note)
