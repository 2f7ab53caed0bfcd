-- The fault of a head: that of its first line that is not as it is to be.
use Rattle.std.specs.Prelude.{◌≡◌, ◌≢◌, ◌↔◌, ◌⊎◌, ℕ, ◌+◌, ◌<◌, ◌^◌, true, false, List, [], ◌∷◌, ◌++◌, length, codes, Ok, Err}
use Rattle.ror_text.specs.Cursor.{Cursor, line_words}
use Rattle.ror_table.specs.Table.{DecisionTable}
use Rattle.ror_proof.specs.declared.read.ProofFault.{ProofFault}
use Rattle.ror_proof.specs.declared.read.ProofFault.TheVariants.{BadLine}
use Rattle.ror_proof.specs.Expected.{IsFaultOfLine}
use Rattle.ror_report.specs.Faults.{expected_number}
use Rattle.ror_report.specs.Text.{numbered_text}
use Rattle.ror_group.specs.declared.head.HeadFault.{HeadFault}
use Rattle.ror_group.specs.declared.head.HeadFault.TheVariants.{Line, WrongBlock}
use Rattle.ror_group.specs.Head.{header_text, desk_text, is_desk_name, begins_desk, head_at, whole_head_at, IsHeadText}

-- ---- its lines

-- here stands the line that says that there are so many desks, and the next one begins after it
pub record SaysDesks (desks : ℕ) (c after : Cursor) : Type 0 where
  pub text : c.rest ≡ numbered_text (codes "desks") desks ++ after.rest
  pub place : after.place ≡ c.place + length (numbered_text (codes "desks") desks)
  pub small : desks < 2 ^ 32

-- here stands the line of a desk of this name, which a session may have, and the next one begins after it
pub record IsDeskLine (name : List ℕ) (c after : Cursor) : Type 0 where
  pub text : c.rest ≡ desk_text name ++ after.rest
  pub place : after.place ≡ c.place + length (desk_text name)
  pub allowed : is_desk_name name ≡ true

-- here stands the line of no desk
abbrev pub IsNoDeskLine : Cursor → Type 0
IsNoDeskLine c = (name : List ℕ) (after : Cursor) → IsDeskLine name c after → ⊥

-- ---- their faults: no word of them is of a table, so that any table may be taken

-- the fault of the line that begins here: its form is another, or its number
pub data IsFaultOfCount (t : DecisionTable) (desks : ℕ) (c : Cursor) (fault : HeadFault) : Type 0 where
  bad_count : (form : ProofFault) → IsFaultOfLine t (expected_number (codes "desks")) c form → fault ≡ Line form
      → IsFaultOfCount t desks c fault
  other_count : (other : ℕ) (after : Cursor) → SaysDesks other c after → other ≢ desks → fault ≡ WrongBlock
      → IsFaultOfCount t desks c fault

-- the fault of the line that begins here: its first word is another, so that the desk is left out; or its form is another, or
-- its name
pub data IsFaultOfDesk (name : List ℕ) (c : Cursor) (fault : HeadFault) : Type 0 where
  left_out : begins_desk (line_words c) ≡ false → fault ≡ WrongBlock → IsFaultOfDesk name c fault
  bad_desk : begins_desk (line_words c) ≡ true → IsNoDeskLine c → fault ≡ Line (BadLine c.place)
      → IsFaultOfDesk name c fault
  other_desk : (other : List ℕ) (after : Cursor) → IsDeskLine other c after → other ≢ name → fault ≡ WrongBlock
      → IsFaultOfDesk name c fault

-- the fault of the first faulty line among those of these desks
abbrev pub IsFaultOfDesks : List (List ℕ) → Cursor → HeadFault → Type 0
IsFaultOfDesks [] c fault = ⊥
IsFaultOfDesks (name ∷ names) c fault =
    IsFaultOfDesk name c fault
    ⊎ ((after : Cursor) × IsDeskLine name c after × IsFaultOfDesks names after fault)

-- the fault of the line of a desk that begins here, where none is due: of its form, or else that it is one too many
pub data IsFaultOfExtra (c : Cursor) (fault : HeadFault) : Type 0 where
  bad_extra : begins_desk (line_words c) ≡ true → IsNoDeskLine c → fault ≡ Line (BadLine c.place) → IsFaultOfExtra c fault
  one_too_many : (name : List ℕ) (after : Cursor) → IsDeskLine name c after → fault ≡ WrongBlock → IsFaultOfExtra c fault

-- behind the first line
abbrev pub behind_header : List ℕ → Cursor
behind_header rest = record { place = length header_text; rest = rest }

-- the fault of bytes that do not begin with the head of these desks: of their first line, of that of the number of desks, or of
-- that of a desk
pub data IsFaultOfHead (t : DecisionTable) (names : List (List ℕ)) (bytes : List ℕ) (fault : HeadFault) : Type 0 where
  in_header : ((rest : List ℕ) → bytes ≡ header_text ++ rest → ⊥) → fault ≡ Line (BadLine 0)
      → IsFaultOfHead t names bytes fault
  in_count : (rest : List ℕ) → bytes ≡ header_text ++ rest → IsFaultOfCount t (length names) (behind_header rest) fault
      → IsFaultOfHead t names bytes fault
  in_desks : (rest : List ℕ) (desks : Cursor) → bytes ≡ header_text ++ rest
      → SaysDesks (length names) (behind_header rest) desks → IsFaultOfDesks names desks fault
      → IsFaultOfHead t names bytes fault

-- the same, or that of a further desk's line behind the head
pub data IsFaultOfWholeHead (t : DecisionTable) (names : List (List ℕ)) (bytes : List ℕ) (fault : HeadFault) : Type 0 where
  in_head : IsFaultOfHead t names bytes fault → IsFaultOfWholeHead t names bytes fault
  behind_head : (after : Cursor) → IsHeadText names bytes after → IsFaultOfExtra after fault
      → IsFaultOfWholeHead t names bytes fault

-- ---- the laws

-- other bytes have the fault of their first faulty line
abbrev pub HeadsFailFirst : Type 0
HeadsFailFirst = (t : DecisionTable) (names : List (List ℕ)) (bytes : List ℕ) (fault : HeadFault)
    → (head_at names bytes ≡ Err fault) ↔ IsFaultOfHead t names bytes fault

-- a head is read as a whole exactly where its text stands and no desk's line behind it
abbrev pub WholeHeadsAreTheirTexts : Type 0
WholeHeadsAreTheirTexts = (names : List (List ℕ)) (bytes : List ℕ) (after : Cursor)
    → (whole_head_at names bytes ≡ Ok after)
    ↔ (IsHeadText names bytes after × (begins_desk (line_words after) ≡ false))

abbrev pub WholeHeadsFailFirst : Type 0
WholeHeadsFailFirst = (t : DecisionTable) (names : List (List ℕ)) (bytes : List ℕ) (fault : HeadFault)
    → (whole_head_at names bytes ≡ Err fault) ↔ IsFaultOfWholeHead t names bytes fault
