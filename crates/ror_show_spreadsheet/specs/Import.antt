-- What a spreadsheet is read as: a table, and the text of a plain table that has its values; or the first fault.
use Rattle.std.specs.Prelude.{ℕ, ◌+◌, ◌-◌, min, Bool, true, false, not, ◌&&◌, ◌||◌, ◌==◌, nat_lt, List, [], ◌∷◌, ◌++◌, length, drop, codes, slice_get, Option, Some, None, Result, Ok, Err, if◌then◌else◌}
use Rattle.std.specs.List.{enumerate_from, range_with_len}
use Rattle.std.specs.Option.{option_and_then, option_map_or, is_none, is_some}
use Rattle.ror_text.specs.Lines.{word_at}
use Rattle.ror_text.specs.Reading.{◌>>=◌, refuse, need, read_all}
use Rattle.ror_table.specs.declared.amount.Amount.{Amount}
use Rattle.ror_table.specs.declared.direction.Direction.{Direction}
use Rattle.ror_table.specs.declared.direction.Direction.TheVariants.{Max, Min}
use Rattle.ror_table.specs.declared.direction.Scale.{Scale}
use Rattle.ror_table.specs.declared.fault.What.TheVariants as whats
use Rattle.ror_table.specs.Draft.{empty_table, with_criterion, with_alternative, finished}
use Rattle.ror_table.specs.Grammar.{direction_word}
use Rattle.ror_table.specs.Table.{DecisionTable}
use Rattle.ror_show_cells.specs.declared.fault.OptionName.TheVariants as named
use Rattle.ror_show_cells.specs.declared.fault.SheetFault.{SheetFault}
use Rattle.ror_show_cells.specs.declared.fault.SheetKind.TheVariants.{OneColumn, Ragged, NoName, RepeatedId, BadDirection, NoDirection, TwoDirections, TooMany, Empty, WideScale}
use Rattle.ror_show_spreadsheet.specs.declared.importing.Imported.{Imported}
use Rattle.ror_show_spreadsheet.specs.declared.lines.Layout.{Layout}
use Rattle.ror_show_spreadsheet.specs.declared.lines.Numbers as numbers
use Rattle.ror_show_spreadsheet.specs.declared.columns.Reading as readings
use Rattle.ror_show_cells.specs.declared.numbers.CellTest.TheVariants.{HasText, SaysScale}
use Rattle.ror_show_cells.specs.declared.numbers.Numerals.{Numerals}
use Rattle.ror_show_cells.specs.declared.separator.Separator.{Separator}
use Rattle.ror_show_cells.specs.Faults.{fault_at, whole_fault}
use Rattle.ror_show_spreadsheet.specs.Names.{column_id, row_id}
use Rattle.ror_show_cells.specs.Numbers.{any_cell, numerals_of, amount_in, word_of, kind_of}
use Rattle.ror_show_spreadsheet.specs.Options.{Named, names, known_names}
use Rattle.ror_show_cells.specs.Rows.{Cells, row_at}
use Rattle.ror_show_cells.specs.Scales.{scale_in}
use Rattle.ror_show_cells.specs.Sheet.{Sheet, sheet_of}

-- what was read so far: the table, and the lines of a plain table that write it
pub record Reading : Type 0 where
  pub table : DecisionTable
  pub text : List ℕ

abbrev pub reading_with : readings.Reading → Reading
reading_with reading = record { table = reading.draft; text = reading.text.items }

abbrev pub begun : Reading
begun = record { table = empty_table; text = codes "ror-table 3\n" }

-- as many cells as the first row has
abbrev pub even_row : ℕ → ℕ → Cells → Result (Unit {0}) SheetFault
even_row number due row = refuse (fault_at Ragged number (min (length row) due + 1)) (not (length row == due))

-- the first row has two cells or more
abbrev pub head_of : List Cells → Result Cells SheetFault
head_of rows = do
  _ ← refuse (fault_at OneColumn 1 1) (nat_lt (length (row_at rows 0)) 2)
  Ok (row_at rows 0)

-- ---- criteria

-- The row of directions is the second one, where some cell of it behind the first says a direction.
abbrev pub words_of : List Cells → Option Cells
words_of rows = option_and_then (λ row. if any_cell SaysScale 1 row then Some row else None) (slice_get rows 1)

-- it has as many cells as the first one
abbrev pub even_words : ℕ → Option Cells → Result (Unit {0}) SheetFault
even_words due None = Ok tt
even_words due (Some words) = even_row 2 due words

abbrev pub word_in : Option Cells → ℕ → List ℕ
word_in words place = option_map_or (λ row. word_at row place) words []

-- what a row of directions, `--min` and `--max` say of a criterion's direction: one of them has to
abbrev pub direction_from : ℕ → Option Scale → Bool → Bool → Result Direction SheetFault
direction_from column (Some scale) false false = Ok scale.direction
direction_from column None true false = Ok Min
direction_from column None false true = Ok Max
direction_from column None false false = Err (fault_at NoDirection 1 column)
direction_from column said least most = Err (fault_at TwoDirections 1 column)

-- it is linear where the row of directions or `--linear` says so
abbrev pub is_linear_by : Option Scale → Bool → Bool
is_linear_by said named = named || option_map_or (λ scale. scale.linear) said false

-- the scale of the criterion in this column, with this name and this word of directions, which may be empty
unfoldable pub scale_of : Named → ℕ → List ℕ → List ℕ → Result Scale SheetFault
scale_of o column name word = do
  _ ← refuse (fault_at BadDirection 2 column) (not (length word == 0) && is_none (scale_in word))
  direction ← direction_from column (scale_in word) (names o.min name) (names o.max name)
  Ok (record { direction = direction; linear = is_linear_by (scale_in word) (names o.linear name) })

-- what stands behind a criterion's id
abbrev pub scale_text : Scale → List ℕ
scale_text scale = 32 ∷ direction_word scale.direction ++ (if scale.linear then codes " linear" else []) ++ 10 ∷ []

-- the line `criterion ID min`, and so on
unfoldable pub criterion_text : List ℕ → Scale → List ℕ
criterion_text id scale = codes "criterion " ++ id ++ scale_text scale

-- one criterion more
unfoldable pub with_column : Reading → ℕ → List ℕ → Scale → Result Reading SheetFault
with_column x column name scale = do
  table ← with_criterion (fault_at NoName 1 column) (fault_at RepeatedId 1 column)
      (fault_at (TooMany whats.Criteria) 1 column) x.table (column_id column name) scale
  Ok (record { table = table; text = x.text ++ criterion_text (column_id column name) scale })

-- the criterion in the column of this place, from 0, with its name and its word of directions
unfoldable pub column_step : Named → Reading → ℕ → List ℕ → List ℕ → Result Reading SheetFault
column_step o x place name word = do
  _ ← refuse (fault_at NoName 1 (place + 1)) (length name == 0)
  scale ← scale_of o (place + 1) name word
  with_column x (place + 1) name scale

abbrev pub column_at : Named → Cells → Option Cells → Reading → ℕ → Result Reading SheetFault
column_at o head words x place = column_step o x place (word_at head place) (word_in words place)

-- those of all columns behind the first
abbrev pub read_columns : Named → Cells → Option Cells → Result Reading SheetFault
read_columns o head words = read_all (column_at o head words) begun (range_with_len 1 (length head - 1))

-- each name of an option is that of a criterion
unfoldable pub known_options : Named → Cells → Result (Unit {0}) SheetFault
known_options o head = do
  _ ← known_names named.Min o.min head
  _ ← known_names named.Max o.max head
  known_names named.Linear o.linear head

-- ---- alternatives

-- the amounts of a row, and the words that write them, each behind a blank
pub record Numbers : Type 0 where
  pub amounts : List Amount
  pub text : List ℕ

abbrev pub numbers_with : numbers.Numbers → Numbers
numbers_with given = record { amounts = given.amounts.items; text = given.text.items }

abbrev pub no_numbers : Numbers
no_numbers = record { amounts = []; text = [] }

unfoldable pub number_step : Numerals → ℕ → Numbers → ℕ → List ℕ → Result Numbers SheetFault
number_step n row x place cell = do
  amount ← need (fault_at (kind_of n cell) row (place + 1)) (amount_in n cell)
  Ok (record { amounts = x.amounts ++ amount ∷ []; text = x.text ++ 32 ∷ word_of n.mark cell })

abbrev pub number_at : Numerals → ℕ → Cells → Numbers → ℕ → Result Numbers SheetFault
number_at n row cells x place = number_step n row x place (word_at cells place)

-- those of all cells behind the first
unfoldable pub numbers_of : Numerals → ℕ → Cells → Result Numbers SheetFault
numbers_of n row cells = read_all (number_at n row cells) no_numbers (range_with_len 1 (length cells - 1))

-- the line `alternative ID NUMBER ..`
unfoldable pub alternative_text : List ℕ → List ℕ → List ℕ
alternative_text id numbers = codes "alternative " ++ id ++ numbers ++ 10 ∷ []

-- one alternative more
unfoldable pub with_row : Reading → ℕ → List ℕ → Numbers → Result Reading SheetFault
with_row x row name given = do
  table ← with_alternative (fault_at NoName row 1) (fault_at RepeatedId row 1) (fault_at (TooMany whats.Alternatives) row 1)
      x.table (row_id row name) given.amounts
  Ok (record { table = table; text = x.text ++ alternative_text (row_id row name) given.text })

-- a row with something in it is an alternative
unfoldable pub filled_row : Layout → Reading → ℕ → Cells → Result Reading SheetFault
filled_row l x row cells = do
  _ ← even_row row l.width cells
  _ ← refuse (fault_at NoName row 1) (length (word_at cells 0) == 0)
  given ← numbers_of l.numerals row cells
  with_row x row (word_at cells 0) given

-- a row at its place among those behind the first ones; without anything in it, it is passed over
unfoldable pub row_step : Layout → Reading → ℕ × Cells → Result Reading SheetFault
row_step l x row = if any_cell HasText 0 row.1 then filled_row l x (l.before + row.0 + 1) row.1 else Ok x

abbrev pub read_rows : Layout → Reading → List Cells → Result Reading SheetFault
read_rows l x rows = read_all (row_step l) x (enumerate_from 0 rows)

-- ---- the sheet

-- how many rows stand before the alternatives
abbrev pub before_of : Option Cells → ℕ
before_of words = if is_some words then 2 else 1

-- the rows of alternatives
abbrev pub rows_behind : ℕ → List Cells → List Cells
rows_behind before rows = drop before rows

abbrev pub body_of : List Cells → List Cells
body_of rows = rows_behind (before_of (words_of rows)) rows

abbrev pub layout_of : Separator → ℕ → List Cells → Layout
layout_of separator width rows = record {
  numerals = numerals_of separator (body_of rows);
  width = width;
  before = before_of (words_of rows);
}

-- what was read is a table, if it is one
unfoldable pub whole : Numerals → Reading → Result Imported SheetFault
whole n x = do
  table ← finished (whole_fault Empty) (whole_fault (TooMany whats.Steps)) (whole_fault WideScale) x.table
  Ok (record { numerals = n; table = table; text = x.text })

-- the first row has the names of the criteria, the second one may have directions, and the others are alternatives
unfoldable pub imported_in : Named → Sheet → Result Imported SheetFault
imported_in o sheet = do
  head ← head_of sheet.rows
  _ ← even_words (length head) (words_of sheet.rows)
  x ← read_columns o head (words_of sheet.rows)
  _ ← known_options o head
  y ← read_rows (layout_of sheet.separator (length head) sheet.rows) x (body_of sheet.rows)
  whole (numerals_of sheet.separator (body_of sheet.rows)) y

unfoldable pub imported_of : Named → List ℕ → Result Imported SheetFault
imported_of o bytes = do
  sheet ← sheet_of bytes
  imported_in o sheet
