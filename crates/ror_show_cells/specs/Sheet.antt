-- Which bytes are a spreadsheet, and what it has.
use Rattle.std.specs.Prelude.{ℕ, ◌+◌, Bool, not, ◌||◌, ◌==◌, nat_lt, List, [], ◌∷◌, length, take, position, Option, Result, Ok, Err}
use Rattle.std.specs.Option.{option_map_or}
use Rattle.std.specs.Str.{bytes_eq, is_utf8}
use Rattle.ror_text.specs.declared.lines.TheConstants.{MOST_TEXT_BYTES}
use Rattle.ror_text.specs.Lines.{bad_utf8_line, line_of}
use Rattle.ror_text.specs.Reading.{◌>>=◌, refuse}
use Rattle.ror_show_cells.specs.declared.fault.SheetFault.{SheetFault}
use Rattle.ror_show_cells.specs.declared.fault.SheetKind.TheVariants.{TooLong, Utf16, NotUtf8, Nul, TooManyRows}
use Rattle.ror_show_cells.specs.declared.separator.Separator.{Separator}
use Rattle.ror_show_cells.specs.declared.spreadsheet.Spreadsheet as declared
use Rattle.ror_show_cells.specs.declared.spreadsheet.TheConstants.{MOST_ROWS}
use Rattle.ror_show_cells.specs.Faults.{fault_at, whole_fault}
use Rattle.ror_show_cells.specs.Rows.{Cells, separator_of, rows_of}

-- its rows, and what separates their cells
pub record Sheet : Type 0 where
  pub separator : Separator
  pub rows : List Cells

abbrev pub sheet_with : declared.Spreadsheet → Sheet
sheet_with sheet = record { separator = sheet.separator; rows = sheet.rows.items }

-- the byte order marks of UTF-16
abbrev pub is_utf16 : List ℕ → Bool
is_utf16 bytes = bytes_eq (take 2 bytes) (0xFF ∷ 0xFE ∷ []) || bytes_eq (take 2 bytes) (0xFE ∷ 0xFF ∷ [])

abbrev pub nul_place : List ℕ → Option ℕ
nul_place bytes = position (λ byte. byte == 0) bytes

abbrev pub no_nul : List ℕ → Result (Unit {0}) SheetFault
no_nul bytes = option_map_or (λ place. Err (fault_at Nul (line_of bytes place) 0)) (nul_place bytes) (Ok tt)

-- at most so many rows
abbrev pub rows_in : Separator → List Cells → Result Sheet SheetFault
rows_in separator rows = do
  _ ← refuse (fault_at TooManyRows (MOST_ROWS + 1) 0) (nat_lt MOST_ROWS (length rows))
  Ok (record { separator = separator; rows = rows })

unfoldable pub sheet_of : List ℕ → Result Sheet SheetFault
sheet_of bytes = do
  _ ← refuse (whole_fault TooLong) (nat_lt MOST_TEXT_BYTES (length bytes))
  _ ← refuse (fault_at Utf16 1 0) (is_utf16 bytes)
  _ ← refuse (fault_at NotUtf8 (bad_utf8_line bytes) 0) (not (is_utf8 bytes))
  _ ← no_nul bytes
  rows_in (separator_of bytes) (rows_of (separator_of bytes) bytes)
