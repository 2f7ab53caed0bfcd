-- The head of a group's report: its one text, and reading it against the desks whose report it is to be.
use Rattle.std.specs.Prelude.{◌≡◌, ℕ, ◌<◌, ◌^◌, Bool, not, true, false, List, [], ◌∷◌, ◌++◌, length, codes, nat_eq, ◌==◌, if◌then◌else◌, Option, Some, None, Result, Ok, Err}
use Rattle.std.specs.List.{flat_map, starts_with, AllByRecursion}
use Rattle.std.specs.Str.{bytes_eq}
use Rattle.ror_text.specs.Cursor.{Cursor, cursor_at, line_words}
use Rattle.ror_text.specs.Reading.{◌>>=◌, refuse}
use Rattle.ror_text.specs.SpacedLines.{line_text}
use Rattle.ror_proof.specs.declared.read.ProofFault.{ProofFault}
use Rattle.ror_proof.specs.declared.read.ProofFault.TheVariants as lines
use Rattle.ror_proof.specs.Reading.{IsProofFaultWithin}
pub use Rattle.ror_report.specs.Desk.{desk_text, is_visible_name, is_desk_name}
use Rattle.ror_report.specs.Desk.{desk_line}
use Rattle.ror_report.specs.Reading.{numbered_line}
use Rattle.ror_report.specs.Text.{numbered_text}
use Rattle.ror_group.specs.declared.head.HeadFault.{HeadFault}
use Rattle.ror_group.specs.declared.head.HeadFault.TheVariants as faults

-- ---- the text

unfoldable pub header_text : List ℕ
header_text = line_text (codes "ror-group" ∷ codes "1" ∷ [])

-- the first line, the line of the number of desks, and a line for each
unfoldable pub head_text : List (List ℕ) → List ℕ
head_text names = header_text ++ (numbered_text (codes "desks") (length names) ++ flat_map desk_text names)

-- ---- the reading

-- the fault that an error names: none for want of memory
abbrev pub head_fault : HeadFault → Option HeadFault
head_fault (faults.Line lines.Memory) = None
head_fault fault = Some fault

-- the line of which an error speaks begins at a place or before it
abbrev pub IsHeadFaultWithin : ℕ → HeadFault → Type 0
IsHeadFaultWithin n (faults.Line fault) = IsProofFaultWithin n fault
IsHeadFaultWithin n faults.WrongBlock = Unit {0}

-- a fault of a line's form
abbrev pub in_line : {A : Type 0} → Result A ProofFault → Result A HeadFault
in_line (Ok x) = Ok x
in_line (Err fault) = Err (faults.Line fault)

-- the first word of the line is `desk`
abbrev pub begins_desk : List (List ℕ) → Bool
begins_desk [] = false
begins_desk (word ∷ more) = bytes_eq word (codes "desk")

-- where the line of this desk ends: another line there leaves the desk out
unfoldable pub desk_at : List ℕ → Cursor → Result Cursor HeadFault
desk_at name c = do
  _ ← refuse faults.WrongBlock (not (begins_desk (line_words c)))
  said ← in_line (desk_line c)
  _ ← refuse faults.WrongBlock (not (bytes_eq said.0 name))
  Ok said.1

-- the same of all of these, one after the other
unfoldable pub desks_at : List (List ℕ) → Cursor → Result Cursor HeadFault
desks_at [] c = Ok c
desks_at (name ∷ names) c = do
  next ← desk_at name c
  desks_at names next

-- where the line of the number of desks ends
unfoldable pub count_at : ℕ → Cursor → Result Cursor HeadFault
count_at desks c = do
  said ← in_line (numbered_line (codes "desks") c)
  _ ← refuse faults.WrongBlock (not (said.0 == desks))
  Ok said.1

-- where the head ends, if it is that of these desks
unfoldable pub head_at : List (List ℕ) → List ℕ → Result Cursor HeadFault
head_at names bytes = do
  _ ← refuse (faults.Line (lines.BadLine 0)) (not (starts_with nat_eq bytes header_text))
  desks ← count_at (length names) (cursor_at bytes (length header_text))
  desks_at names desks

-- no desk's line stands at the cursor: one that does is a desk too many, after the faults of its form
unfoldable pub no_desk_at : Cursor → Result Cursor HeadFault
no_desk_at c = if begins_desk (line_words c) then (do
  _ ← in_line (desk_line c)
  Err faults.WrongBlock) else Ok c

-- where the head ends, if it is that of these desks and of no further one
unfoldable pub whole_head_at : List (List ℕ) → List ℕ → Result Cursor HeadFault
whole_head_at names bytes = do
  c ← head_at names bytes
  no_desk_at c

-- ---- the two together

-- the bytes begin with the head of these desks, which a session may have, and it ends at the cursor
pub record IsHeadText (names : List (List ℕ)) (bytes : List ℕ) (after : Cursor) : Type 0 where
  pub text : bytes ≡ head_text names ++ after.rest
  pub place : after.place ≡ length (head_text names)
  pub few : length names < 2 ^ 32
  pub allowed : AllByRecursion (λ name. is_desk_name name ≡ true) names

-- a head is read exactly where its text stands
abbrev pub HeadsAreTheirTexts : Type 0
HeadsAreTheirTexts = (names : List (List ℕ)) (bytes : List ℕ) (after : Cursor)
    → (head_at names bytes ≡ Ok after → IsHeadText names bytes after)
    × (IsHeadText names bytes after → head_at names bytes ≡ Ok after)
