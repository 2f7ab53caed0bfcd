-- The laws of entries and their texts.
use Rattle.std.specs.Prelude.{◌≡◌, ◌↔◌, ℕ, ◌+◌, false, List, [], ◌∷◌, ◌++◌, length, Ok, Err, codes}
use Rattle.std.specs.Str.{IsUtf8}
use Rattle.ror_text.specs.Cursor.{Cursor}
use Rattle.ror_table.specs.Table.{DecisionTable, IsTable}
use Rattle.ror_proof.specs.declared.read.ProofFault.{ProofFault}
use Rattle.ror_proof.specs.Reading.{begins_part}
use Rattle.ror_confidence.specs.declared.span.LevelAnswer.{LevelAnswer}
use Rattle.ror_spans.specs.declared.entry.Entry.{Entry}
use Rattle.ror_spans.specs.declared.entry.Entry.TheVariants as entries
use Rattle.ror_spans.specs.Text.{entry_text, IsPrintableEntry}
use Rattle.ror_spans.specs.Reading.{begins_level, entry_at}
use Rattle.ror_spans.specs.EntryFaults.{IsFaultOfEntry}

-- no part of the last answer follows, where there is one
abbrev pub IsEndedAfter : List LevelAnswer → List ℕ → Type 0
IsEndedAfter [] rest = Unit {0}
IsEndedAfter (x ∷ xs) rest = begins_part rest ≡ false

-- nothing follows that belongs to the entry: no line of a level after a span, and no part of the last answer
abbrev pub IsEnded : Entry → List ℕ → Type 0
IsEnded (entries.Known first second span) rest =
    (begins_level rest ≡ false) × IsEndedAfter span.proof rest
IsEnded (entries.Wide first second found) rest = begins_part rest ≡ false

-- from the cursor on stands the text of an entry that has one, and it ends there
pub record IsEntryText (t : DecisionTable) (c : Cursor) (x : Entry) (after : Cursor) : Type 0 where
  pub text : c.rest ≡ entry_text t x ++ after.rest
  pub place : after.place ≡ c.place + length (entry_text t x)
  pub printable : IsPrintableEntry t x
  pub ended : IsEnded x after.rest

-- an entry is read exactly where its text stands
abbrev pub EntriesAreTheirTexts : Type 0
EntriesAreTheirTexts = (t : DecisionTable) (c : Cursor) (x : Entry) (after : Cursor) → IsTable t
    → (entry_at t c ≡ Ok (x, after)) ↔ IsEntryText t c x after

-- two entries have two texts, whatever follows that belongs to neither
abbrev pub EntriesHaveOneText : Type 0
EntriesHaveOneText = (t : DecisionTable) (x y : Entry) (more rest : List ℕ) → IsTable t
    → IsPrintableEntry t x → IsPrintableEntry t y → IsEnded x more → IsEnded y rest
    → entry_text t x ++ more ≡ entry_text t y ++ rest → x ≡ y

-- each text begins with the word `pair`
abbrev pub EntriesBeginWithPair : Type 0
EntriesBeginWithPair = (t : DecisionTable) (x : Entry)
    → (more : List ℕ) × (entry_text t x ≡ codes "pair " ++ more)

abbrev pub EntriesAreUtf8 : Type 0
EntriesAreUtf8 = (t : DecisionTable) (x : Entry) → IsTable t → IsPrintableEntry t x
    → IsUtf8 (entry_text t x)

-- the fault that is given is that of the first faulty word of the first faulty line
abbrev pub EntriesFailFirst : Type 0
EntriesFailFirst = (t : DecisionTable) (c : Cursor) (fault : ProofFault) → IsTable t
    → (entry_at t c ≡ Err fault) ↔ IsFaultOfEntry t c fault
