-- An empty line stands before what is told.
use Rattle.std.proofs.Common.{ℕ, List, [], ◌++◌, Result, Ok, Err}
use Rattle.ror_show_cells.specs.declared.fault.SheetFault.{SheetFault}
use Rattle.ror_show_cells.specs.Rows.{Cells}
use Rattle.ror_show_cells.specs.Sheet.{Sheet, sheet_of}
use Rattle.ror_show_spreadsheet.specs.declared.importing.Imported.{Imported}
use Rattle.ror_show_spreadsheet.specs.Import.{imported_in}
use Rattle.ror_show_spreadsheet.specs.Notes.{notes_text, place_text}
use Rattle.ror_show_spreadsheet.specs.Options.{Named}
use Rattle.ror_show_import.specs.Telling.{IsBehindLine, TellsFault, TellsRead, TellsBytes, Tells}

pub fault_begins : (rows : List Cells) (fault : SheetFault) (text : List ℕ) → TellsFault rows fault text → IsBehindLine text
fault_begins rows fault text told = (place_text rows fault ++ told.0, told.1)

read_begins : (sheet : Sheet) (r : Result Imported SheetFault) (text : List ℕ) → TellsRead sheet r text → IsBehindLine text
read_begins sheet (Ok x) text told = (notes_text sheet x.numerals ++ told.0, told.2)
read_begins sheet (Err fault) text told = fault_begins sheet.rows fault text told

bytes_begin : (o : Named) (r : Result Sheet SheetFault) (text : List ℕ) → TellsBytes o r text → IsBehindLine text
bytes_begin o (Ok sheet) text told = read_begins sheet (imported_in o sheet) text told
bytes_begin o (Err fault) text told = fault_begins [] fault text told

pub told_begins : (o : Named) (bytes text : List ℕ) → Tells o bytes text → IsBehindLine text
told_begins o bytes text told = bytes_begin o (sheet_of bytes) text told
