-- The line of a desk: its text, and reading it.
use Rattle.std.specs.Prelude.{ℕ, Bool, not, ◌&&◌, List, [], ◌∷◌, length, codes, nat_le, ◌==◌, Result, Ok}
use Rattle.std.specs.Str.{is_utf8}
use Rattle.ror_text.specs.Cursor.{Cursor, line_words}
use Rattle.ror_text.specs.Lines.{has_control}
use Rattle.ror_text.specs.Reading.{◌>>=◌, refuse}
use Rattle.ror_text.specs.SpacedLines.{line_text}
use Rattle.ror_session.specs.declared.limits.TheConstants.{MOST_DESK_NAME_BYTES}
use Rattle.ror_proof.specs.declared.read.ProofFault.{ProofFault}
use Rattle.ror_proof.specs.declared.read.ProofFault.TheVariants.{BadLine}
use Rattle.ror_proof.specs.Reading.{ended}
use Rattle.ror_proof.specs.Words.{after_word, no_more}

-- its words: those of the desk without a name are `desk` alone
abbrev pub desk_words : List ℕ → List (List ℕ)
desk_words [] = codes "desk" ∷ []
desk_words (byte ∷ bytes) = codes "desk" ∷ (byte ∷ bytes) ∷ []

abbrev pub desk_text : List ℕ → List ℕ
desk_text name = line_text (desk_words name)

-- the name is not too long, and has no blank and no control character
abbrev pub is_visible_name : List ℕ → Bool
is_visible_name name = nat_le (length name) MOST_DESK_NAME_BYTES && not (has_control (name ∷ []))

-- a session may have a desk of this name, which is UTF-8 besides
abbrev pub is_desk_name : List ℕ → Bool
is_desk_name name = is_visible_name name && is_utf8 name

-- the name after the word `desk`, which is not empty where it is there
unfoldable pub name_in : ℕ → List (List ℕ) → Result (List ℕ) ProofFault
name_in place [] = Ok []
name_in place (name ∷ more) = do
  _ ← refuse (BadLine place) (length name == 0)
  _ ← refuse (BadLine place) (not (is_desk_name name))
  _ ← no_more place more
  Ok name

-- the words of a desk's line
unfoldable pub name_words : ℕ → List (List ℕ) → Result (List ℕ) ProofFault
name_words place words = do
  more ← after_word place (codes "desk") words
  name_in place more

-- the name in a desk's line, and where the next line begins
abbrev pub desk_line : Cursor → Result (List ℕ × Cursor) ProofFault
desk_line c = ended c (name_words c.place (line_words c))
