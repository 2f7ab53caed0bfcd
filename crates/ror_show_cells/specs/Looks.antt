-- Small questions on cells.
use Rattle.std.specs.Prelude.{ℕ, ◌==◌, Bool, false, not, ◌&&◌, ◌||◌, nat_le, List, [], ◌∷◌, length, filter, if◌then◌else◌}
use Rattle.std.specs.Char.{is_ascii_digit}
use Rattle.std.specs.List.{list_all, list_any, slice_split}

-- a byte of this sort stands in it
abbrev pub has : ℕ → List ℕ → Bool
has byte cell = list_any (λ other. other == byte) cell

-- a number without its sign
abbrev pub unsigned : List ℕ → List ℕ
unsigned [] = []
unsigned (first ∷ rest) = if first == 43 || first == 45 then rest else first ∷ rest

abbrev pub begins_with_digit : List ℕ → Bool
begins_with_digit [] = false
begins_with_digit (first ∷ rest) = is_ascii_digit first

-- digits alone, one or more
abbrev pub are_digits : List ℕ → Bool
are_digits cell = not (length cell == 0) && list_all is_ascii_digit cell

abbrev pub is_of_digits_and : ℕ → List ℕ → Bool
is_of_digits_and mark cell = list_all (λ byte. is_ascii_digit byte || byte == mark) cell

-- what may stand between thousands: a comma, a point, an apostrophe, a blank, or a blank that isn't of ASCII
abbrev pub is_digit_or_mark : ℕ → Bool
is_digit_or_mark byte = is_ascii_digit byte || byte == 44 || byte == 46 || byte == 39 || byte == 32 || nat_le 128 byte

-- the runs of digits
abbrev pub runs : List ℕ → List (List ℕ)
runs cell = filter (λ run. not (length run == 0)) (slice_split (λ byte. not (is_ascii_digit byte)) cell)
