-- Cells by their places, and how many of them say something.
use Rattle.std.specs.Prelude.{ℕ, ◌-◌, ◌*◌, ◌/◌, zero, suc, ◌+◌, ◌==◌, Bool, not, List, [], slice_index_or}
use Rattle.ror_show_find_relation.specs.Relations.{count_below}
use Rattle.ror_show_find_relation.specs.declared.cell.Cell.{Cell}
use Rattle.ror_show_find_relation.specs.declared.cell.Cell.TheVariants as cells
use Rattle.ror_show_find_relation.specs.Cells.{sign, is_over_another}

abbrev pub pairs_among : ℕ → ℕ
pairs_among n = n * (n - 1) / 2

-- the cell of a row and a column; past the last one it says nothing
abbrev pub cell_in : List (List Cell) → ℕ → ℕ → Cell
cell_in rows a b = slice_index_or (slice_index_or rows a []) b cells.Unknown

abbrev pub is_over_at : List (List Cell) → ℕ → ℕ → Bool
is_over_at rows a b = is_over_another (cell_in rows a b)

abbrev pub is_under_at : List (List Cell) → ℕ → ℕ → Bool
is_under_at rows a b = is_over_another (cell_in rows b a)

-- how many of n alternatives it is at least as good as by every function
abbrev pub over_count : List (List Cell) → ℕ → ℕ → ℕ
over_count rows n a = count_below (is_over_at rows a) n

-- how many of them are so to it
abbrev pub under_count : List (List Cell) → ℕ → ℕ → ℕ
under_count rows n a = count_below (is_under_at rows a) n

-- the cell of a row and a column has the sign of this one
abbrev pub is_like : Cell → List (List Cell) → ℕ → ℕ → Bool
is_like cell rows a b = sign (cell_in rows a b) == sign cell

-- of how many pairs of the first n alternatives
abbrev pub pairs_like : Cell → List (List Cell) → ℕ → ℕ
pairs_like cell rows zero = 0
pairs_like cell rows (suc n) = count_below (is_like cell rows n) n + pairs_like cell rows n

-- of how many it isn't concluded how they stand, and of how many that no function agrees with the statements
abbrev pub unknown_pairs : List (List Cell) → ℕ → ℕ
unknown_pairs = pairs_like cells.Unknown

abbrev pub contradictory_pairs : List (List Cell) → ℕ → ℕ
contradictory_pairs = pairs_like cells.Contradiction

-- of some pair of the first n alternatives it is concluded that no function agrees with the statements
abbrev pub is_contradictory : List (List Cell) → ℕ → Bool
is_contradictory rows n = not (contradictory_pairs rows n == 0)
