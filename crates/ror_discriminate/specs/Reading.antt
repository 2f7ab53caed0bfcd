-- Reading an entry: what it is and where it ends, or the first fault.
use Rattle.std.specs.Prelude.{ℕ, ℤ, List, Option, Some, None, Result, Ok, Err, codes}
use Rattle.ror_text.specs.Cursor.{Cursor, line_words}
use Rattle.ror_text.specs.Numbers.{number_of}
use Rattle.ror_text.specs.Reading.{◌>>=◌}
use Rattle.ror_system.specs.declared.accept.Multipliers.{Multipliers}
use Rattle.ror_system.specs.declared.accept.Solution.{Solution}
use Rattle.ror_pivot.specs.declared.note.Place.{Place}
use Rattle.ror_pivot.specs.declared.note.Place.TheVariants as places
use Rattle.ror_pivot.specs.declared.optimum.ClimbPlace.{ClimbPlace}
use Rattle.ror_pivot.specs.declared.optimum.ClimbPlace.TheVariants as climbs
use Rattle.ror_proof.specs.declared.answer.PlaceText.{PlaceText}
use Rattle.ror_proof.specs.declared.answer.PlaceText.TheVariants as texts
use Rattle.ror_proof.specs.declared.read.ProofFault.{ProofFault}
use Rattle.ror_proof.specs.declared.read.ProofFault.TheVariants.{BadLine}
use Rattle.ror_proof.specs.Reading as certificates
use Rattle.ror_proof.specs.Reading.{ended, refutation_at}
use Rattle.ror_proof.specs.Words.{first_word, after_word, first_named, name_at, no_more, number_in, small_number_at, numbers_at, pivot_in, all_at}
use Rattle.ror_report.specs.Desk.{desk_line}
use Rattle.ror_discriminate.specs.declared.entry.Entry.{Entry}
use Rattle.ror_discriminate.specs.declared.entry.EntryBody.{EntryBody}
use Rattle.ror_discriminate.specs.declared.entry.EntryBody.TheVariants as bodies
use Rattle.ror_discriminate.specs.declared.names.BodyForm.{BodyForm}
use Rattle.ror_discriminate.specs.declared.names.BodyForm.TheVariants as forms
use Rattle.ror_discriminate.specs.declared.names.PathName.{PathName}
use Rattle.ror_discriminate.specs.declared.names.PathName.TheVariants as paths
use Rattle.ror_discriminate.specs.declared.names.ClimbName.{ClimbName}
use Rattle.ror_discriminate.specs.declared.names.ClimbName.TheVariants as climbing
use Rattle.ror_discriminate.specs.EntryNames.{form_word, body_forms, path_word, path_names, climb_word, climb_names}

-- ---- the words of a line; the number is the place of the line's first byte

-- the number that comes first
unfoldable pub number_at : ℕ → List (List ℕ) → Result (ℤ × List (List ℕ)) ProofFault
number_at place words = do
  word ← first_word place words
  number ← number_in number_of place word.0
  Ok (number, word.1)

-- `COLUMN:ROW`; any other word is a bad line
unfoldable pub step_in : ℕ → List ℕ → Result (ℕ × ℕ) ProofFault
step_in place word = do
  pivot ← pivot_in place word
  Ok (pivot.column, pivot.row)

-- every word is a pivot
abbrev pub steps_at : ℕ → List (List ℕ) → Result (List (ℕ × ℕ)) ProofFault
steps_at place words = all_at (step_in place) words

-- `path` and pivots, up to the end of the line
unfoldable pub path_at : ℕ → List (List ℕ) → Result (List (ℕ × ℕ)) ProofFault
path_at place words = do
  more ← after_word place (codes "path") words
  steps_at place more

-- the place on a system's path of which a text speaks
abbrev pub place_of : PlaceText → Place
place_of (texts.Start row column) = places.Start row column
place_of (texts.Step row column) = places.Step row column
place_of (texts.Denominator row) = places.Denominator row
place_of (texts.RowSum row) = places.RowSum row
place_of (texts.ColumnSum column) = places.ColumnSum column

unfoldable pub place_at : ℕ → List (List ℕ) → Result (Place × List (List ℕ)) ProofFault
place_at place words = do
  text ← certificates.place_at place words
  Ok (place_of text.0, text.1)

-- the place of this name on a climbing path, whose word is before these words
abbrev pub climbed_at : ℕ → ClimbName → List (List ℕ) → Result (ClimbPlace × List (List ℕ)) ProofFault
climbed_at place climbing.Start words = do
  entry ← certificates.entry_at place words
  Ok (climbs.Start entry.0.0 entry.0.1, entry.1)
climbed_at place climbing.Step words = do
  entry ← certificates.entry_at place words
  Ok (climbs.Step entry.0.0 entry.0.1, entry.1)
climbed_at place climbing.Denominator words = do
  row ← small_number_at place words
  Ok (climbs.Denominator row.0, row.1)
climbed_at place climbing.RowSum words = do
  row ← small_number_at place words
  Ok (climbs.RowSum row.0, row.1)
climbed_at place climbing.Total words = Ok (climbs.Total, words)
climbed_at place climbing.Scale words = do
  column ← small_number_at place words
  Ok (climbs.Scale column.0, column.1)
climbed_at place climbing.ColumnSum words = do
  column ← small_number_at place words
  Ok (climbs.ColumnSum column.0, column.1)

unfoldable pub climb_place_at : ℕ → List (List ℕ) → Result (ClimbPlace × List (List ℕ)) ProofFault
climb_place_at place words = do
  name ← name_at climb_word climb_names place words
  climbed_at place name.0 name.1

-- a place, which is read so, and the path, up to the end of the line
unfoldable pub noted_at : {P : Type 0} → (ℕ → List (List ℕ) → Result (P × List (List ℕ)) ProofFault) → ℕ
    → List (List ℕ) → Result (P × List (ℕ × ℕ)) ProofFault
noted_at read place words = do
  number ← read place words
  path ← path_at place number.1
  Ok (number.0, path)

-- the note of this path, whose word is before these words
abbrev pub note_of : PathName → ℕ → List (List ℕ) → Result EntryBody ProofFault
note_of paths.Base place words = do
  note ← noted_at place_at place words
  Ok (bodies.BaseWide (record { path = note.1; place = note.0 }))
note_of paths.Climb place words = do
  note ← noted_at climb_place_at place words
  Ok (bodies.ClimbWide (record { path = note.1; place = note.0 }))

-- ---- the words of each line

unfoldable pub margin_words : ℕ → List (List ℕ) → Result (ℤ × ℤ) ProofFault
margin_words place words = do
  more ← after_word place (codes "margin") words
  margin ← number_at place more
  total ← number_at place margin.1
  _ ← no_more place total.1
  Ok (margin.0, total.0)

unfoldable pub solution_line_words : ℕ → List (List ℕ) → Result Solution ProofFault
solution_line_words place words = do
  more ← after_word place (codes "solution") words
  steps ← numbers_at place more
  Ok (record { steps = steps })

unfoldable pub none_words : ℕ → List (List ℕ) → Result EntryBody ProofFault
none_words place words = do
  more ← after_word place (codes "none") words
  _ ← no_more place more
  Ok bodies.NoStrictRow

unfoldable pub contradiction_words : ℕ → List (List ℕ) → Result EntryBody ProofFault
contradiction_words place words = do
  more ← after_word place (codes "contradiction") words
  multipliers ← refutation_at place more
  Ok (bodies.Contradiction multipliers)

unfoldable pub wide_words : ℕ → List (List ℕ) → Result EntryBody ProofFault
wide_words place words = do
  more ← after_word place (codes "wide") words
  path ← name_at path_word path_names place more
  note_of path.0 place path.1

-- ---- line by line

abbrev pub margin_line : Cursor → Result ((ℤ × ℤ) × Cursor) ProofFault
margin_line c = ended c (margin_words c.place (line_words c))

abbrev pub solution_line : Cursor → Result (Solution × Cursor) ProofFault
solution_line c = ended c (solution_line_words c.place (line_words c))

abbrev pub multipliers_line : Cursor → Result (Multipliers × Cursor) ProofFault
multipliers_line c = ended c (refutation_at c.place (line_words c))

-- the margin and the total, the solution, and the multipliers
unfoldable pub best_at : Cursor → Result (EntryBody × Cursor) ProofFault
best_at c = do
  margin ← margin_line c
  solution ← solution_line margin.1
  multipliers ← multipliers_line solution.1
  Ok (
    bodies.Best margin.0.0 margin.0.1 (record { solution = solution.0; multipliers = multipliers.0 }),
    multipliers.1,
  )

-- the form for which the first of these words stands
abbrev pub form_of : List (List ℕ) → Option BodyForm
form_of words = first_named form_word body_forms words

-- a body of this form
abbrev pub formed_at : Option BodyForm → Cursor → Result (EntryBody × Cursor) ProofFault
formed_at None c = Err (BadLine c.place)
formed_at (Some forms.Best) c = best_at c
formed_at (Some forms.NoStrictRow) c = ended c (none_words c.place (line_words c))
formed_at (Some forms.Contradiction) c = ended c (contradiction_words c.place (line_words c))
formed_at (Some forms.Wide) c = ended c (wide_words c.place (line_words c))

-- a body: the first word of its first line decides the form
unfoldable pub body_at : Cursor → Result (EntryBody × Cursor) ProofFault
body_at c = formed_at (form_of (line_words c)) c

-- the line of the desk, and the body
unfoldable pub entry_at : Cursor → Result (Entry × Cursor) ProofFault
entry_at c = do
  desk ← desk_line c
  body ← body_at desk.1
  Ok (record { desk = desk.0; body = body.0 }, body.1)
