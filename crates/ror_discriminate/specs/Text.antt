-- The one text of an entry: the name of a desk, and what is said of its statements.
use Rattle.std.specs.Prelude.{◌≡◌, ℕ, ◌<◌, ◌^◌, true, List, [], ◌∷◌, ◌++◌, map, ℤ, codes, decimal}
use Rattle.std.specs.Fmt.{signed_decimal}
use Rattle.std.specs.List.{AllByRecursion}
use Rattle.ror_text.specs.SpacedLines.{line_text}
use Rattle.ror_system.specs.System.{IsNarrow}
use Rattle.ror_pivot.specs.declared.note.Place.{Place}
use Rattle.ror_pivot.specs.declared.note.Place.TheVariants as places
use Rattle.ror_pivot.specs.declared.note.WideNote.{WideNote}
use Rattle.ror_pivot.specs.declared.optimum.ClimbNote.{ClimbNote}
use Rattle.ror_pivot.specs.declared.optimum.ClimbPlace.{ClimbPlace}
use Rattle.ror_pivot.specs.declared.optimum.ClimbPlace.TheVariants as climbs
use Rattle.ror_pivot.specs.declared.optimum.Optimum.{Optimum}
use Rattle.ror_proof.specs.declared.answer.PlaceText.{PlaceText}
use Rattle.ror_proof.specs.declared.answer.PlaceText.TheVariants as texts
use Rattle.ror_proof.specs.Text as certificates
use Rattle.ror_proof.specs.Text.{solution_words, multipliers_words, place_numbers, AreNarrow}
use Rattle.ror_report.specs.Desk.{desk_text, is_desk_name}
use Rattle.ror_discriminate.specs.declared.entry.Entry.{Entry}
use Rattle.ror_discriminate.specs.declared.entry.EntryBody.{EntryBody}
use Rattle.ror_discriminate.specs.declared.entry.EntryBody.TheVariants as bodies

-- ---- optima

-- `margin M T`
abbrev pub margin_text : ℤ → ℤ → List ℕ
margin_text margin total = line_text (codes "margin" ∷ signed_decimal margin ∷ signed_decimal total ∷ [])

-- that line, the line of the solution, and that of the multipliers
abbrev pub best_text : ℤ → ℤ → Optimum → List ℕ
best_text margin total x =
    margin_text margin total
    ++ (line_text (solution_words x.solution.steps)
    ++ line_text (multipliers_words x.multipliers.weak x.multipliers.strict))

-- ---- numbers too wide

-- a place on a system's path, as a text speaks of it
abbrev pub text_of : Place → PlaceText
text_of (places.Start row column) = texts.Start row column
text_of (places.Step row column) = texts.Step row column
text_of (places.Denominator row) = texts.Denominator row
text_of (places.RowSum row) = texts.RowSum row
text_of (places.ColumnSum column) = texts.ColumnSum column

-- the word of a place, and its numbers
abbrev pub place_words : Place → List (List ℕ)
place_words place = certificates.place_words (text_of place)

abbrev pub climb_place_words : ClimbPlace → List (List ℕ)
climb_place_words (climbs.Start row column) = codes "start" ∷ decimal row ∷ decimal column ∷ []
climb_place_words (climbs.Step row column) = codes "step" ∷ decimal row ∷ decimal column ∷ []
climb_place_words (climbs.Denominator row) = codes "denominator" ∷ decimal row ∷ []
climb_place_words (climbs.RowSum row) = codes "rowsum" ∷ decimal row ∷ []
climb_place_words climbs.Total = codes "total" ∷ []
climb_place_words (climbs.Scale column) = codes "scale" ∷ decimal column ∷ []
climb_place_words (climbs.ColumnSum column) = codes "columnsum" ∷ decimal column ∷ []

-- a pivot, `COLUMN:ROW`
abbrev pub step_word : ℕ × ℕ → List ℕ
step_word step = decimal step.0 ++ 58 ∷ decimal step.1

-- `path` and the pivots
abbrev pub path_words : List (ℕ × ℕ) → List (List ℕ)
path_words path = codes "path" ∷ map step_word path

abbrev pub base_wide_text : WideNote → List ℕ
base_wide_text note =
    line_text (codes "wide" ∷ codes "base" ∷ (place_words note.place ++ path_words note.path))

abbrev pub climb_wide_text : ClimbNote → List ℕ
climb_wide_text note =
    line_text (codes "wide" ∷ codes "climb" ∷ (climb_place_words note.place ++ path_words note.path))

-- ---- entries

abbrev pub body_text : EntryBody → List ℕ
body_text (bodies.Best margin total optimum) = best_text margin total optimum
body_text bodies.NoStrictRow = line_text (codes "none" ∷ [])
body_text (bodies.Contradiction m) = line_text (codes "contradiction" ∷ multipliers_words m.weak m.strict)
body_text (bodies.BaseWide note) = base_wide_text note
body_text (bodies.ClimbWide note) = climb_wide_text note

-- the line of the desk, and what is said of it
unfoldable pub entry_text : Entry → List ℕ
entry_text x = desk_text x.desk ++ body_text x.body

-- ---- those that have a text

-- a place or a count of a report
abbrev pub IsSmall : ℕ → Type 0
IsSmall n = n < 2 ^ 32

abbrev pub IsSmallPlace : Place → Type 0
IsSmallPlace place = AllByRecursion IsSmall (place_numbers (text_of place))

abbrev pub IsSmallClimbPlace : ClimbPlace → Type 0
IsSmallClimbPlace (climbs.Start row column) = IsSmall row × IsSmall column
IsSmallClimbPlace (climbs.Step row column) = IsSmall row × IsSmall column
IsSmallClimbPlace (climbs.Denominator row) = IsSmall row
IsSmallClimbPlace (climbs.RowSum row) = IsSmall row
IsSmallClimbPlace climbs.Total = Unit {0}
IsSmallClimbPlace (climbs.Scale column) = IsSmall column
IsSmallClimbPlace (climbs.ColumnSum column) = IsSmall column

abbrev pub IsSmallPath : List (ℕ × ℕ) → Type 0
IsSmallPath path = AllByRecursion (λ step. IsSmall step.0 × IsSmall step.1) path

-- the numbers of a solution and of multipliers are of absolute value at most 2^127 - 1
abbrev pub IsNarrowBest : Optimum → Type 0
IsNarrowBest x = AllByRecursion IsNarrow x.solution.steps × AreNarrow x.multipliers

abbrev pub IsPrintableBody : EntryBody → Type 0
IsPrintableBody (bodies.Best margin total optimum) =
    IsNarrow margin × IsNarrow total × IsNarrowBest optimum
IsPrintableBody bodies.NoStrictRow = Unit {0}
IsPrintableBody (bodies.Contradiction m) = AreNarrow m
IsPrintableBody (bodies.BaseWide note) = IsSmallPlace note.place × IsSmallPath note.path
IsPrintableBody (bodies.ClimbWide note) = IsSmallClimbPlace note.place × IsSmallPath note.path

-- the entries that have a text: of a desk that a session may have, with numbers that a report may hold
pub record IsPrintableEntry (x : Entry) : Type 0 where
  pub named : is_desk_name x.desk ≡ true
  pub body : IsPrintableBody x.body
