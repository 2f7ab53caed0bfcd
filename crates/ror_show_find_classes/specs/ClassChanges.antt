-- What changed in the classes of alternatives from one time of a desk to the next, as values.
use Rattle.std.specs.Prelude.{◌≡◌, ℕ, ◌<◌, List, [], ◌∷◌, Option, Some, None, slice_get}
use Rattle.std.specs.List.{flat_map, AllZip}
use Rattle.ror_show_find_classes.specs.declared.value.ClassRow.{ClassRow}
use Rattle.ror_show_find_classes.specs.declared.value.ClassTime.{ClassTime}
use Rattle.ror_show_find_classes.specs.declared.changes.RowChange.{RowChange}
use Rattle.ror_show_find_classes.specs.declared.changes.ClassChangeFound.{ClassChangeFound}
use Rattle.ror_show_find_classes.specs.Changes.{change_of, row_of}

-- ---- one row

-- what became of it, where its alternative had a row before
abbrev pub row_change_from : ClassRow → Option ClassRow → List RowChange
row_change_from now (Some before) = record { before = before; now = now; change = change_of before now } ∷ []
row_change_from now None = []

unfoldable pub row_change : List ClassRow → ClassRow → List RowChange
row_change before now = row_change_from now (row_of before now.alternative)

-- the row, where its alternative has none among the others
abbrev pub alone_from : ClassRow → Option ClassRow → List ClassRow
alone_from row (Some other) = []
alone_from row None = row ∷ []

unfoldable pub alone_in : List ClassRow → ClassRow → List ClassRow
alone_in others row = alone_from row (row_of others row.alternative)

-- ---- two times

abbrev pub rows_change : ℕ × ℕ → List ClassRow → List ClassRow → ClassChangeFound
rows_change turn before now = record {
  before = turn.0;
  now = turn.1;
  rows = flat_map (row_change before) now;
  now_alone = flat_map (alone_in before) now;
  before_alone = flat_map (alone_in now) before;
}

abbrev pub class_change : ℕ × ℕ → ClassTime → ClassTime → ClassChangeFound
class_change turn before now = rows_change turn before.intervals now.intervals

-- of those at two places
pub record IsClassChange (times : List ClassTime) (turn : ℕ × ℕ) (f : ClassChangeFound) : Type 0 where
  pub before : ClassTime
  pub now : ClassTime
  pub before_there : slice_get times turn.0 ≡ Some before
  pub now_there : slice_get times turn.1 ≡ Some now
  pub is : f ≡ class_change turn before now

-- one for each of these, in order
abbrev pub AreClassChanges : List ClassTime → List (ℕ × ℕ) → List ClassChangeFound → Type 0
AreClassChanges times turns fs = AllZip (IsClassChange times) turns fs

abbrev pub AreWithin : ℕ → ℕ × ℕ → Type 0
AreWithin n turn = (turn.0 < n) × (turn.1 < n)
