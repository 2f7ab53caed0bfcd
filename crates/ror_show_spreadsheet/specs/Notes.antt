-- What is told of a spreadsheet.
use Rattle.std.specs.Prelude.{◌≡◌, ℕ, ◌+◌, ◌-◌, ◌==◌, ◌||◌, nat_lt, List, [], ◌++◌, length, map, codes, decimal, if◌then◌else◌}
use Rattle.std.specs.List.{enumerate_from, flat_map, range_with_len}
use Rattle.std.specs.Str.{bytes_eq}
use Rattle.ror_text.specs.Lines.{word_at}
use Rattle.ror_show_cells.specs.declared.fault.SheetFault.{SheetFault}
use Rattle.ror_show_spreadsheet.specs.declared.notes.TheConstants.{MOST_SHOWN}
use Rattle.ror_show_cells.specs.declared.numbers.CellTest.TheVariants.{HasText}
use Rattle.ror_show_cells.specs.declared.numbers.Numerals.{Numerals}
use Rattle.ror_show_cells.specs.declared.separator.Separator.{Separator}
use Rattle.ror_show_cells.specs.declared.separator.Separator.TheVariants.{Comma, Semicolon, Tab}
use Rattle.ror_show_spreadsheet.specs.Import.{words_of, before_of, body_of}
use Rattle.ror_show_spreadsheet.specs.Names.{column_id, row_id}
use Rattle.ror_show_cells.specs.Numbers.{any_cell}
use Rattle.ror_show_cells.specs.Rows.{Cells, row_at}
use Rattle.ror_show_cells.specs.Sheet.{Sheet}

-- ---- how it was read

abbrev pub separator_words : Separator → List ℕ
separator_words Comma = codes "commas"
separator_words Semicolon = codes "semicolons"
separator_words Tab = codes "tabs"

abbrev pub mark_words : ℕ → List ℕ
mark_words mark = if mark == 44 then codes "comma" else codes "point"

unfoldable pub layout_text : Separator → ℕ → List ℕ
layout_text separator mark = codes "cells between " ++ separator_words separator ++ codes ", decimals with a "
    ++ mark_words mark ++ codes "\n"

-- ---- names behind their ids

-- a question mark for what would end a line or steer a screen
abbrev pub shown_byte : ℕ → ℕ
shown_byte byte = if nat_lt byte 0x20 || byte == 0x7F then 63 else byte

abbrev pub shown : List ℕ → List ℕ
shown name = map shown_byte name

abbrev pub numbered : List ℕ → ℕ → List ℕ
numbered before number = before ++ decimal number

unfoldable pub length_text : ℕ → List ℕ
length_text number = numbered (codes ": a text of ") number ++ codes " bytes"

-- what stands in a cell, if anything does; of a long text only its length
unfoldable pub there_text : List ℕ → List ℕ
there_text cell = if length cell == 0 then []
    else (if nat_lt MOST_SHOWN (length cell) then length_text (length cell) else codes ": `" ++ shown cell ++ codes "`")

-- nothing of a name that is its own id
unfoldable pub note_text : List ℕ → List ℕ → List ℕ
note_text id name = if bytes_eq id name then []
    else codes "name     " ++ id ++ there_text name ++ codes "\n"

unfoldable pub column_note : ℕ → List ℕ → List ℕ
column_note place name = note_text (column_id (place + 1) name) name

abbrev pub column_notes : Cells → List ℕ
column_notes head = flat_map (λ place. column_note place (word_at head place)) (range_with_len 1 (length head - 1))

unfoldable pub row_note : ℕ → ℕ × Cells → List ℕ
row_note before row = if any_cell HasText 0 row.1
    then note_text (row_id (before + row.0 + 1) (word_at row.1 0)) (word_at row.1 0) else []

abbrev pub row_notes : ℕ → List Cells → List ℕ
row_notes before rows = flat_map (row_note before) (enumerate_from 0 rows)

unfoldable pub notes_text : Sheet → Numerals → List ℕ
notes_text sheet n = layout_text sheet.separator n.mark ++ column_notes (row_at sheet.rows 0)
    ++ row_notes (before_of (words_of sheet.rows)) (body_of sheet.rows)

-- ---- where a fault is, and what stands there

-- the cell at the place of the fault
abbrev pub there : List Cells → SheetFault → List ℕ
there rows fault = word_at (row_at rows (fault.row - 1)) (fault.column - 1)

abbrev pub column_text : List Cells → SheetFault → List ℕ
column_text rows fault = if nat_lt 0 fault.column
    then numbered (codes ", column ") fault.column ++ there_text (there rows fault) else []

unfoldable pub place_text : List Cells → SheetFault → List ℕ
place_text rows fault = if fault.row == 0 then []
    else numbered (codes "row ") fault.row ++ column_text rows fault ++ codes "\n"

-- the place, and some words
abbrev pub AddsFault : List Cells → SheetFault → List ℕ → List ℕ → Type 0
AddsFault rows fault before after = (words : List ℕ) × (after ≡ before ++ place_text rows fault ++ words)
