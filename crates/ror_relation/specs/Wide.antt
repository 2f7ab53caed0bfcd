-- Notes of which no number passes a limit.
use Rattle.std.specs.Prelude.{ℕ, ◌<◌}
use Rattle.std.specs.List.{AllByRecursion}
use Rattle.ror_pivot.specs.declared.note.SolveFault.{SolveFault}
use Rattle.ror_pivot.specs.declared.note.SolveFault.TheVariants.{Wide, Memory}
use Rattle.ror_pivot.specs.declared.note.Place.{Place}
use Rattle.ror_pivot.specs.declared.note.Place.TheVariants as places

-- the numbers of a place are below the limit
abbrev pub IsPlaceBelow : ℕ → Place → Type 0
IsPlaceBelow limit (places.Start i j) = (i < limit) × (j < limit)
IsPlaceBelow limit (places.Step i j) = (i < limit) × (j < limit)
IsPlaceBelow limit (places.Denominator i) = i < limit
IsPlaceBelow limit (places.RowSum i) = i < limit
IsPlaceBelow limit (places.ColumnSum j) = j < limit

-- the numbers of a note are below the limit
abbrev pub IsNoteBelow : ℕ → SolveFault → Type 0
IsNoteBelow limit (Wide note) = AllByRecursion (λ p. (p.0 < limit) × (p.1 < limit)) note.path
    × IsPlaceBelow limit note.place
IsNoteBelow limit Memory = Unit {0}
