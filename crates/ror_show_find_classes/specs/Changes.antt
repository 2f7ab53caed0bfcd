-- What became of the classes between which an alternative is.
use Rattle.std.specs.Prelude.{ℕ, Bool, true, false, not, ◌&&◌, ◌==◌, nat_le, List, length, Option, slice_get, if◌then◌else◌}
use Rattle.std.specs.Option.{option_map_or, option_and_then}
use Rattle.ror_show_ground.specs.Turns.{last_below}
use Rattle.ror_show_find_classes.specs.declared.value.ClassRow.{ClassRow}
use Rattle.ror_show_find_classes.specs.declared.change.Change.{Change}
use Rattle.ror_show_find_classes.specs.declared.change.Change.TheVariants.{Stayed, Narrowed, Widened, Moved, NotConcluded}

-- all classes are excluded
abbrev pub is_none : ClassRow → Bool
is_none row = row.highest == 0

abbrev pub is_same_interval : ClassRow → ClassRow → Bool
is_same_interval x y = x.lowest == y.lowest && x.highest == y.highest

-- the classes of the one are among those of the other
abbrev pub is_within : ClassRow → ClassRow → Bool
is_within x y = nat_le y.lowest x.lowest && nat_le x.highest y.highest

-- of each class it is concluded whether it is possible, and some one is left
abbrev pub is_comparable : ClassRow → Bool
is_comparable row = row.whole && not (is_none row)

-- from what it was to what it is
abbrev pub change_of : ClassRow → ClassRow → Change
change_of before now = if not (is_comparable before && is_comparable now) then NotConcluded
    else (if is_same_interval before now then Stayed
    else (if is_within now before then Narrowed
    else (if is_within before now then Widened else Moved)))

abbrev pub is_same : Change → Change → Bool
is_same Stayed Stayed = true
is_same Narrowed Narrowed = true
is_same Widened Widened = true
is_same Moved Moved = true
is_same NotConcluded NotConcluded = true
is_same _ _ = false

-- ---- the same alternative at another time

abbrev pub is_of : ℕ → ClassRow → Bool
is_of a row = row.alternative == a

abbrev pub is_row_of : List ClassRow → ℕ → ℕ → Bool
is_row_of rows a k = option_map_or (is_of a) (slice_get rows k) false

-- the last row of an alternative, if it has one
abbrev pub row_of : List ClassRow → ℕ → Option ClassRow
row_of rows a = option_and_then (slice_get rows) (last_below (is_row_of rows a) (length rows))
