-- The notes of answers, as those of the systems' paths.
use Rattle.std.specs.Prelude.{ℕ, List, map}
use Rattle.ror_system.specs.System.{LinearSystem}
use Rattle.ror_pivot.specs.declared.note.Place.{Place}
use Rattle.ror_pivot.specs.declared.note.Place.TheVariants as places
use Rattle.ror_pivot.specs.Notes.{IsWideNote}
use Rattle.ror_proof.specs.declared.answer.Pivot.{Pivot}
use Rattle.ror_proof.specs.declared.answer.PlaceText.{PlaceText}
use Rattle.ror_proof.specs.declared.answer.PlaceText.TheVariants as texts
use Rattle.ror_proof.specs.declared.answer.WideText.{WideText}

-- the pivots, each by its column and its row
abbrev pub pivots_of : List Pivot → List (ℕ × ℕ)
pivots_of path = map (λ p. (p.column, p.row)) path

-- the same place of a path
abbrev pub place_of : PlaceText → Place
place_of (texts.Start i j) = places.Start i j
place_of (texts.Step i j) = places.Step i j
place_of (texts.Denominator i) = places.Denominator i
place_of (texts.RowSum i) = places.RowSum i
place_of (texts.ColumnSum j) = places.ColumnSum j

-- the note names the first number of the system's path that passes most
abbrev pub HasNoteAt : ℕ → LinearSystem → WideText → Type 0
HasNoteAt most s note = IsWideNote most s (pivots_of note.path) (place_of note.place)
