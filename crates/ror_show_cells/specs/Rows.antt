-- The rows and cells of a spreadsheet's bytes, as `csv` cuts them.
use Rattle.std.specs.Prelude.{ℕ, ◌+◌, Bool, nat_lt, List, [], length, map, slice_index_or, Option, if◌then◌else◌}
use Rattle.std.specs.Option.{option_map_or}
use Rattle.csv.specs.declared.parser.Config.{Config}
use Rattle.csv.specs.declared.parser.State.TheVariants.{StartRecord}
use Rattle.csv.specs.Machine.{Read, next_record}
use Rattle.csv.specs.Reading.{default_config, records_from, strip_bom}
use Rattle.csv.specs.Records as records
use Rattle.ror_show_cells.specs.declared.separator.Separator.{Separator}
use Rattle.ror_show_cells.specs.declared.separator.Separator.TheVariants.{Comma, Semicolon, Tab}
use Rattle.ror_show_cells.specs.declared.spreadsheet.TheConstants.{MOST_ROWS}

-- a row is its cells
abbrev pub Cells : Type 0
Cells = List (List ℕ)

abbrev pub separator_byte : Separator → ℕ
separator_byte Comma = 44
separator_byte Semicolon = 59
separator_byte Tab = 9

-- Rows end with a line feed, a carriage return, or both; a cell may stand between quotation marks, within which two stand for one.
abbrev pub config_of : Separator → Config
config_of separator = record default_config { delimiter = separator_byte separator }

-- the first row behind a byte order mark; lines without anything are passed over
abbrev pub first_read : Separator → List ℕ → Option Read
first_read separator bytes = next_record (config_of separator) StartRecord [] [] (strip_bom bytes)

-- how many cells it has
abbrev pub first_width : Separator → List ℕ → ℕ
first_width separator bytes = option_map_or (λ read. length read.0) (first_read separator bytes) 0

abbrev pub cuts : Separator → List ℕ → Bool
cuts separator bytes = nat_lt 1 (first_width separator bytes)

-- the first of tab, semicolon and comma that cuts the first row, and the comma where none does
unfoldable pub separator_of : List ℕ → Separator
separator_of bytes = if cuts Tab bytes then Tab else (if cuts Semicolon bytes then Semicolon else Comma)

-- the cells of a record
abbrev pub cells_of : records.Row → Cells
cells_of row = records.fields_of row

-- without what is white at their ends
abbrev pub trimmed_cells : Cells → Cells
trimmed_cells cells = map records.trimmed cells

-- the rows, or the first of them, one more than there may be
abbrev pub rows_of : Separator → List ℕ → List Cells
rows_of separator bytes =
    map trimmed_cells (records_from (config_of separator) (MOST_ROWS + 1) StartRecord (strip_bom bytes))

-- a row, from 0; without cells past the last one
abbrev pub row_at : List Cells → ℕ → Cells
row_at rows r = slice_index_or rows r []
