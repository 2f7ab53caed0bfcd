-- The first line of a report of most discriminating functions: its text, and reading it; and where the line of a desk stands.
use Rattle.std.specs.Prelude.{◌≡◌, ◌↔◌, ℕ, not, true, List, [], ◌∷◌, ◌++◌, length, codes, nat_eq, Result, Ok, Err, Some}
use Rattle.std.specs.List.{starts_with}
use Rattle.ror_text.specs.Cursor.{Cursor, cursor_at, line_words, line_after}
use Rattle.ror_text.specs.Reading.{◌>>=◌, refuse}
use Rattle.ror_text.specs.SpacedLines.{line_text}
use Rattle.ror_proof.specs.declared.read.ProofFault.{ProofFault}
use Rattle.ror_proof.specs.declared.read.ProofFault.TheVariants.{BadLine}
pub use Rattle.ror_report.specs.Desk.{desk_text, is_desk_name}
use Rattle.ror_report.specs.Desk.{desk_words}

-- ---- the first line

unfoldable pub header_text : List ℕ
header_text = line_text (codes "ror-discriminate" ∷ codes "1" ∷ [])

-- where the first line ends: bytes that begin with another one are faulty in it
unfoldable pub header_at : List ℕ → Result Cursor ProofFault
header_at bytes = do
  _ ← refuse (BadLine 0) (not (starts_with nat_eq bytes header_text))
  Ok (cursor_at bytes (length header_text))

-- the bytes begin with the first line, which ends at the cursor
pub record IsHeaderText (bytes : List ℕ) (after : Cursor) : Type 0 where
  pub text : bytes ≡ header_text ++ after.rest
  pub place : after.place ≡ length header_text

-- the first line is read exactly where it stands, and refused as a bad one exactly where it doesn't
pub record HeadersAreTheirTexts : Type 0 where
  pub read : (bytes : List ℕ) (after : Cursor) → (header_at bytes ≡ Ok after) ↔ IsHeaderText bytes after
  pub refused : (bytes : List ℕ) (fault : ProofFault)
      → (header_at bytes ≡ Err fault)
      ↔ (((after : Cursor) → IsHeaderText bytes after → ⊥) × (fault ≡ BadLine 0))

-- ---- the line of a desk

-- the line that begins here is that of a desk that a session may have, and a line feed ends it, after which the next one begins
pub record IsDeskLine (c : Cursor) (name : List ℕ) (after : Cursor) : Type 0 where
  pub words : line_words c ≡ desk_words name
  pub named : is_desk_name name ≡ true
  pub ended : line_after c ≡ Some after
