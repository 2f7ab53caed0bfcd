-- The laws of entries and their texts.
use Rattle.std.specs.Prelude.{◌≡◌, ◌↔◌, ℕ, ◌+◌, List, ◌++◌, length, Ok, Err, codes}
use Rattle.std.specs.Str.{IsUtf8}
use Rattle.ror_text.specs.Cursor.{Cursor}
use Rattle.ror_table.specs.Table.{DecisionTable, IsTable}
use Rattle.ror_statement.specs.declared.statement.Statement.{Statement}
use Rattle.ror_value.specs.Over.{IsLawfulIn}
use Rattle.ror_pivot.specs.declared.note.Bits.{Bits}
use Rattle.ror_pivot.specs.Answers.{most_of}
use Rattle.ror_proof.specs.declared.read.ProofFault.{ProofFault}
use Rattle.ror_ranks_text.specs.declared.entry.Entry.{Entry}
use Rattle.ror_ranks_text.specs.declared.entry.EntryBody.{EntryBody}
use Rattle.ror_ranks_text.specs.Given.{IsGivenBody}
use Rattle.ror_ranks_text.specs.Text.{entry_text, IsPrintableBody, IsPrintableEntry}
use Rattle.ror_ranks_text.specs.Reading.{entry_at}
use Rattle.ror_ranks_text.specs.EntryFaults.{IsFaultOfEntry}

-- from the cursor on stands the text of an entry that has one, whatever follows
pub record IsEntryText (t : DecisionTable) (c : Cursor) (x : Entry) (after : Cursor) : Type 0 where
  pub text : c.rest ≡ entry_text t x ++ after.rest
  pub place : after.place ≡ c.place + length (entry_text t x)
  pub printable : IsPrintableEntry t x

-- an entry is read exactly where its text stands
abbrev pub EntriesAreTheirTexts : Type 0
EntriesAreTheirTexts = (t : DecisionTable) (c : Cursor) (x : Entry) (after : Cursor) → IsTable t
    → (entry_at t c ≡ Ok (x, after)) ↔ IsEntryText t c x after

-- two entries have two texts, whatever follows each
abbrev pub EntriesHaveOneText : Type 0
EntriesHaveOneText = (t : DecisionTable) (x y : Entry) (more rest : List ℕ) → IsTable t
    → IsPrintableEntry t x → IsPrintableEntry t y
    → entry_text t x ++ more ≡ entry_text t y ++ rest → x ≡ y

-- each text begins with the word `desk`
abbrev pub EntriesBeginWithDesk : Type 0
EntriesBeginWithDesk = (t : DecisionTable) (x : Entry) → (more : List ℕ) × (entry_text t x ≡ codes "desk" ++ more)

abbrev pub EntriesAreUtf8 : Type 0
EntriesAreUtf8 = (t : DecisionTable) (x : Entry) → IsTable t → IsPrintableEntry t x → IsUtf8 (entry_text t x)

-- the fault that is given is that of the first faulty word of the first faulty line
abbrev pub EntriesFailFirst : Type 0
EntriesFailFirst = (t : DecisionTable) (c : Cursor) (fault : ProofFault) → IsTable t
    → (entry_at t c ≡ Err fault) ↔ IsFaultOfEntry t c fault

-- what is found of a list at a width has a text
abbrev pub GivenBodiesHaveTexts : Type 0
GivenBodiesHaveTexts = (bits : Bits) (t : DecisionTable) (list : List Statement) (body : EntryBody)
    → IsTable t → IsLawfulIn t list → IsGivenBody (most_of bits) t list body → IsPrintableBody t body
