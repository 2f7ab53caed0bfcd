-- Which cells are numbers, and of which value. No number is read in one of two ways that it could be meant.
use Rattle.std.specs.Prelude.{ℕ, ◌==◌, Bool, true, false, not, ◌&&◌, nat_le, nat_lt, List, [], ◌∷◌, length, map, drop, Option, None, if◌then◌else◌}
use Rattle.std.specs.List.{list_all, list_any, count_by}
use Rattle.std.specs.Char.{is_ascii_digit}
use Rattle.std.specs.Option.{option_map_or, is_some}
use Rattle.ror_table.specs.declared.amount.Amount.{Amount}
use Rattle.ror_table.specs.Spellings.{real_of, split_at_byte}
use Rattle.ror_show_cells.specs.declared.fault.SheetKind.{SheetKind}
use Rattle.ror_show_cells.specs.declared.fault.SheetKind.TheVariants.{NoValue, Thousands, OtherMark, Exponent, TooManyDigits, NoNumber}
use Rattle.ror_show_cells.specs.declared.numbers.CellTest.{CellTest}
use Rattle.ror_show_cells.specs.declared.numbers.CellTest.TheVariants.{HasText, SaysScale, Has, Shows}
use Rattle.ror_show_cells.specs.declared.numbers.Numerals.{Numerals}
use Rattle.ror_show_cells.specs.declared.separator.Separator.{Separator}
use Rattle.ror_show_cells.specs.declared.separator.Separator.TheVariants.{Comma}
use Rattle.ror_show_cells.specs.Looks.{has, unsigned, begins_with_digit, are_digits, is_of_digits_and, is_digit_or_mark, runs}
use Rattle.ror_show_cells.specs.Rows.{Cells}
use Rattle.ror_show_cells.specs.Scales.{scale_in}

-- ---- decimals, and groups of three digits

-- a number without its sign, before and behind the mark
abbrev pub parts : ℕ → List ℕ → Option (List ℕ × List ℕ)
parts mark cell = split_at_byte mark (unsigned cell)

abbrev pub are_decimal : List ℕ × List ℕ → Bool
are_decimal parts = are_digits parts.0 && are_digits parts.1

abbrev pub is_decimal : ℕ → List ℕ → Bool
is_decimal mark cell = option_map_or are_decimal (parts mark cell) false

abbrev pub begins_with_zero : List ℕ → Bool
begins_with_zero [] = false
begins_with_zero (first ∷ rest) = first == 48

-- one to three digits, of which the first isn't 0, and three digits
abbrev pub are_groups : List ℕ × List ℕ → Bool
are_groups parts = are_digits parts.0 && are_digits parts.1 && nat_le (length parts.0) 3 && length parts.1 == 3
    && not (begins_with_zero parts.0)

-- the mark may stand between thousands as well as before decimals: `9.900`, but not `9.9` or `0.125`
abbrev pub may_group : ℕ → List ℕ → Bool
may_group mark cell = option_map_or are_groups (parts mark cell) false

-- the cell shows that it stands before decimals
abbrev pub shows : ℕ → List ℕ → Bool
shows mark cell = is_decimal mark cell && not (may_group mark cell)

-- ---- tests of cells

abbrev pub passes : CellTest → List ℕ → Bool
passes HasText cell = not (length cell == 0)
passes SaysScale cell = is_some (scale_in cell)
passes (Has byte) cell = has byte cell
passes (Shows mark) cell = shows mark cell

-- a cell from this place on passes it
abbrev pub any_cell : CellTest → ℕ → Cells → Bool
any_cell test from row = list_any (passes test) (drop from row)

-- a cell behind the first of some row does
abbrev pub any_number : CellTest → List Cells → Bool
any_number test rows = list_any (λ row. any_cell test 1 row) rows

-- ---- how the numbers of a sheet are written

-- Between commas decimals have a point. Between semicolons and tabs they have a comma, where some number has one.
abbrev pub mark_of : Separator → List Cells → ℕ
mark_of Comma rows = 46
mark_of separator rows = if any_number (Has 44) rows then 44 else 46

unfoldable pub numerals_of : Separator → List Cells → Numerals
numerals_of separator rows = record {
  mark = mark_of separator rows;
  shown = any_number (Shows (mark_of separator rows)) rows;
}

-- ---- a number

abbrev pub other_mark : ℕ → ℕ
other_mark mark = if mark == 44 then 46 else 44

abbrev pub point_for : ℕ → ℕ → ℕ
point_for mark byte = if byte == mark then 46 else byte

-- the word of a plain table: with a point for the mark
abbrev pub word_of : ℕ → List ℕ → List ℕ
word_of mark cell = map (point_for mark) cell

-- Its amount: a whole number or a decimal with the sheet's mark. None where the mark may stand between thousands and no number of the
-- sheet shows that it doesn't, and where the other mark stands there.
unfoldable pub amount_in : Numerals → List ℕ → Option Amount
amount_in n cell = if not n.shown && may_group n.mark cell then None
    else (if has (other_mark n.mark) cell then None else real_of (word_of n.mark cell))

-- ---- why a cell is no number

-- one to three digits, and then three digits
abbrev pub are_thousands : List (List ℕ) → Bool
are_thousands [] = false
are_thousands (first ∷ []) = false
are_thousands (first ∷ second ∷ rest) = nat_le (length first) 3 && length second == 3

-- such digits, with marks between
abbrev pub is_grouped : List ℕ → Bool
is_grouped cell = list_all is_digit_or_mark (unsigned cell) && are_thousands (runs (unsigned cell))

abbrev pub is_exponent : List ℕ → Bool
is_exponent cell = begins_with_digit (unsigned cell) && (if has 101 cell then true else has 69 cell)

abbrev pub has_many_digits : ℕ → List ℕ → Bool
has_many_digits mark cell = nat_lt 18 (count_by is_ascii_digit cell) && is_of_digits_and mark (unsigned cell)

-- the first of these
unfoldable pub kind_of : Numerals → List ℕ → SheetKind
kind_of n cell = if length cell == 0 then NoValue
    else (if is_grouped cell then Thousands
    else (if begins_with_digit (unsigned cell) && has (other_mark n.mark) cell then OtherMark
    else (if is_exponent cell then Exponent
    else (if has_many_digits n.mark cell then TooManyDigits
    else NoNumber))))
