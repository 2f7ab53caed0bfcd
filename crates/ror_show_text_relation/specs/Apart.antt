-- The alternatives of which a relation says nothing.
use Rattle.std.specs.Prelude.{ℕ, Bool, true, false, not, List, slice_get}
use Rattle.std.specs.List.{list_any}
use Rattle.std.specs.Option.{option_map_or}
use Rattle.ror_show_find_relation.specs.declared.cell.Cell.{Cell}
use Rattle.ror_show_find_relation.specs.declared.cell.Cell.TheVariants as cells

-- by every function the one of two different alternatives is at least as good as the other
abbrev pub says_something : Cell → Bool
says_something cells.AlwaysBetter = true
says_something cells.AtLeastAsGood = true
says_something cells.AlwaysEqual = true
says_something cells.AtMostAsGood = true
says_something cells.NeverAsGood = true
says_something _ = false

-- no cell of its row says so, and no cell of its column, which are their mirrors
abbrev pub is_silent : List Cell → Bool
is_silent row = not (list_any says_something row)

abbrev pub is_apart : List (List Cell) → ℕ → Bool
is_apart rows a = option_map_or is_silent (slice_get rows a) false
