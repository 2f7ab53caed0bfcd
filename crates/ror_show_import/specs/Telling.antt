-- What is told of a spreadsheet, behind an empty line.
use Rattle.std.specs.Prelude.{◌≡◌, ℕ, List, [], ◌∷◌, ◌++◌, Result, Ok, Err}
use Rattle.ror_value.specs.declared.input.Input.{Input}
use Rattle.ror_show_sheet.specs.Beside.{IsSheet}
use Rattle.ror_show_cells.specs.declared.fault.SheetFault.{SheetFault}
use Rattle.ror_show_spreadsheet.specs.declared.importing.Imported.{Imported}
use Rattle.ror_show_spreadsheet.specs.Import.{imported_in}
use Rattle.ror_show_spreadsheet.specs.Notes.{notes_text, place_text}
use Rattle.ror_show_spreadsheet.specs.Options.{Named}
use Rattle.ror_show_cells.specs.Rows.{Cells}
use Rattle.ror_show_cells.specs.Sheet.{Sheet, sheet_of}

-- an empty line stands first
abbrev pub IsBehindLine : List ℕ → Type 0
IsBehindLine text = (rest : List ℕ) × (text ≡ 10 ∷ rest)

-- where the fault is, what stands there, and some words
abbrev pub TellsFault : List Cells → SheetFault → List ℕ → Type 0
TellsFault rows fault text = (words : List ℕ) × (text ≡ 10 ∷ place_text rows fault ++ words)

-- a table that comes with no statements
abbrev pub input_of : Imported → Input
input_of x = record { table = x.table; opening = [] }

-- how it was read, the ids of names, and what was read, as the page of a table shows it
abbrev pub TellsTable : Sheet → Imported → List ℕ → Type 0
TellsTable sheet x text = (page : List ℕ) × IsSheet (input_of x) page × (text ≡ 10 ∷ notes_text sheet x.numerals ++ page)

abbrev pub TellsRead : Sheet → Result Imported SheetFault → List ℕ → Type 0
TellsRead sheet (Ok x) text = TellsTable sheet x text
TellsRead sheet (Err fault) text = TellsFault sheet.rows fault text

abbrev pub TellsSheet : Named → Sheet → List ℕ → Type 0
TellsSheet o sheet text = TellsRead sheet (imported_in o sheet) text

-- of bytes that are no spreadsheet there are no rows
abbrev pub TellsBytes : Named → Result Sheet SheetFault → List ℕ → Type 0
TellsBytes o (Ok sheet) text = TellsSheet o sheet text
TellsBytes o (Err fault) text = TellsFault [] fault text

abbrev pub Tells : Named → List ℕ → List ℕ → Type 0
Tells o bytes text = TellsBytes o (sheet_of bytes) text
