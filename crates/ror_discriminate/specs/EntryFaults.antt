-- The fault of an entry: that of its first faulty word, in its first faulty line. No word of it is of a table, so that any table
-- may be taken.
use Rattle.std.specs.Prelude.{◌≡◌, ℕ, List, [], ◌∷◌, ◌++◌, length, map, drop, codes, Option, Some, None}
use Rattle.ror_text.specs.Cursor.{Cursor, line_words}
use Rattle.ror_table.specs.Table.{DecisionTable}
use Rattle.ror_proof.specs.declared.read.ProofFault.{ProofFault}
use Rattle.ror_proof.specs.declared.read.ProofFault.TheVariants.{BadLine}
use Rattle.ror_proof.specs.Names.{name_of}
use Rattle.ror_proof.specs.Expected.{Expected, IsLine, IsFaultOfLine, expected_numbers, expected_multipliers, expected_path, expected_note}
use Rattle.ror_proof.specs.Expected.Expected.{the_word, one_of, a_small_number, a_number, the_end}
use Rattle.ror_discriminate.specs.declared.names.BodyForm.{BodyForm}
use Rattle.ror_discriminate.specs.declared.names.BodyForm.TheVariants as forms
use Rattle.ror_discriminate.specs.declared.names.PathName.{PathName}
use Rattle.ror_discriminate.specs.declared.names.PathName.TheVariants as paths
use Rattle.ror_discriminate.specs.declared.names.ClimbName.{ClimbName}
use Rattle.ror_discriminate.specs.declared.names.ClimbName.TheVariants as named
use Rattle.ror_discriminate.specs.EntryNames.{form_word, body_forms, path_word, path_names, climb_word, climb_names}
use Rattle.ror_discriminate.specs.Head.{IsDeskLine}

-- ---- what is expected in the first line of a body, whose first word is before these words

-- A number that has to be there, at the first of these words. A line may end where `a_number` is expected, but not where a small
-- number is: that is expected where no word is left.
abbrev pub a_number_there : List (List ℕ) → Expected
a_number_there [] = a_small_number
a_number_there (word ∷ words) = a_number

-- two numbers
abbrev pub expected_margin : List (List ℕ) → List Expected
expected_margin words = a_number_there words ∷ a_number_there (drop 1 words) ∷ the_end ∷ []

-- `multipliers` and their numbers
abbrev pub expected_refutation : List (List ℕ) → List Expected
expected_refutation words = the_word (codes "multipliers") ∷ expected_multipliers (drop 1 words)

-- the numbers of a place of a climbing path
abbrev pub expected_climb_place : ClimbName → List Expected
expected_climb_place named.Start = a_small_number ∷ a_small_number ∷ []
expected_climb_place named.Step = a_small_number ∷ a_small_number ∷ []
expected_climb_place named.Denominator = a_small_number ∷ []
expected_climb_place named.RowSum = a_small_number ∷ []
expected_climb_place named.Total = []
expected_climb_place named.Scale = a_small_number ∷ []
expected_climb_place named.ColumnSum = a_small_number ∷ []

-- and what follows them
abbrev pub expected_climbed : Option ClimbName → List (List ℕ) → List Expected
expected_climbed (Some name) words =
    expected_climb_place name ++ expected_path (drop (length (expected_climb_place name)) words)
expected_climbed None words = []

-- a place of a climbing path, `path` and pivots
abbrev pub expected_climb_note : List (List ℕ) → List Expected
expected_climb_note [] = one_of (map climb_word climb_names) ∷ []
expected_climb_note (word ∷ words) =
    one_of (map climb_word climb_names) ∷ expected_climbed (name_of climb_word climb_names word) words

-- the note of a path
abbrev pub expected_note_of : Option PathName → List (List ℕ) → List Expected
expected_note_of (Some paths.Base) words = expected_note words
expected_note_of (Some paths.Climb) words = expected_climb_note words
expected_note_of None words = []

-- the word of a path, and its note
abbrev pub expected_wide : List (List ℕ) → List Expected
expected_wide [] = one_of (map path_word path_names) ∷ []
expected_wide (word ∷ words) =
    one_of (map path_word path_names) ∷ expected_note_of (name_of path_word path_names word) words

-- what a body of this form has behind its first word
abbrev pub expected_of : Option BodyForm → List (List ℕ) → List Expected
expected_of (Some forms.Best) words = expected_margin words
expected_of (Some forms.NoStrictRow) words = the_end ∷ []
expected_of (Some forms.Contradiction) words = expected_refutation words
expected_of (Some forms.Wide) words = expected_wide words
expected_of None words = []

-- ---- lines

-- `margin M T`, `none`, `contradiction multipliers ..`, or `wide PATH PLACE path PIVOT ..`
abbrev pub expected_body : List (List ℕ) → List Expected
expected_body [] = one_of (map form_word body_forms) ∷ []
expected_body (word ∷ words) =
    one_of (map form_word body_forms) ∷ expected_of (name_of form_word body_forms word) words

-- `solution` and numbers
abbrev pub expected_solution : List (List ℕ) → List Expected
expected_solution words = the_word (codes "solution") ∷ expected_numbers (drop 1 words)

-- the first word of the line is `margin`, and the lines of a solution and of multipliers follow
pub record SaysMargin (c : Cursor) : Type 0 where
  pub more : List (List ℕ)
  pub words : line_words c ≡ codes "margin" ∷ more

-- The fault of the entry that begins here: of the line of the desk, whose one fault is that it is no such line; of the first line
-- of the body; or, behind a margin, of the line of the solution or of that of the multipliers.
pub data IsFaultOfEntry (t : DecisionTable) (c : Cursor) (fault : ProofFault) : Type 0 where
  in_desk : ((name : List ℕ) (after : Cursor) → IsDeskLine c name after → ⊥) → fault ≡ BadLine c.place
      → IsFaultOfEntry t c fault
  in_body : (name : List ℕ) (body : Cursor) → IsDeskLine c name body → IsFaultOfLine t expected_body body fault
      → IsFaultOfEntry t c fault
  in_solution : (name : List ℕ) (body solution : Cursor) → IsDeskLine c name body → IsLine t expected_body body solution
      → SaysMargin body → IsFaultOfLine t expected_solution solution fault → IsFaultOfEntry t c fault
  in_multipliers : (name : List ℕ) (body solution multipliers : Cursor) → IsDeskLine c name body
      → IsLine t expected_body body solution → SaysMargin body → IsLine t expected_solution solution multipliers
      → IsFaultOfLine t expected_refutation multipliers fault → IsFaultOfEntry t c fault
