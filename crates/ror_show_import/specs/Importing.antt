-- What an import does: the spreadsheet is fetched, and the text of a plain table is written that is read as the same table.
use Rattle.std.specs.Prelude.{◌≡◌, ℕ, false, List, [], ◌∷◌, Ok, Err}
use Rattle.ror_table.specs.Plain.{plain_table}
use Rattle.ror_frame.specs.declared.stop.Refusal.{Refusal}
use Rattle.ror_frame.specs.declared.stop.Refusal.TheVariants as refusals
use Rattle.ror_frame.specs.declared.stop.Stop.{Stop}
use Rattle.ror_frame.specs.declared.stop.Stop.TheVariants as stops
use Rattle.ror_frame.specs.Courses.{Output, finish, fetch, Chore}
use Rattle.ror_frame.specs.Inputs.{line_output}
use Rattle.ror_show_cells.specs.declared.fault.SheetError.{SheetError}
use Rattle.ror_show_cells.specs.declared.fault.SheetError.TheVariants as errors
use Rattle.ror_show_cells.specs.declared.fault.SheetFault.{SheetFault}
use Rattle.ror_show_spreadsheet.specs.declared.importing.Imported.{Imported}
use Rattle.ror_show_spreadsheet.specs.declared.options.Options as declared
use Rattle.ror_show_cells.specs.Faults.{table_fault}
use Rattle.ror_show_spreadsheet.specs.Import.{imported_of}
use Rattle.ror_show_spreadsheet.specs.Options.{Named, options_with}
use Rattle.ror_show_words.specs.Words.{ImportWords}

-- what the words say of criteria
abbrev pub options_in : ImportWords → Named
options_in words = record { min = words.min; max = words.max; linear = words.linear }

abbrev pub named_by : declared.Options → Named
named_by options = options_with options

-- the bytes are read as this; are refused with their first fault
abbrev pub ReadsSpreadsheet : Named → List ℕ → Imported → Type 0
ReadsSpreadsheet o bytes x = imported_of o bytes ≡ Ok x

abbrev pub RefusesSpreadsheet : Named → List ℕ → Refusal → Type 0
RefusesSpreadsheet o bytes r = (fault : SheetFault) × (r ≡ refusals.BadTable (table_fault fault)) × (imported_of o bytes ≡ Err fault)

abbrev pub stop_at_sheet : SheetError → Stop
stop_at_sheet (errors.Bad fault) = stops.At (refusals.BadTable (table_fault fault))
stop_at_sheet errors.Memory = stops.Memory

-- the text is written, which is read as the table of the spreadsheet
abbrev pub import_output : Imported → Output
import_output x = line_output false x.text (plain_table x.text ≡ Ok x.table)

abbrev pub import_chore : ImportWords → Chore
import_chore words = record {
  files = words.file ∷ [];
  course = fetch Imported words.file (ReadsSpreadsheet (options_in words)) (RefusesSpreadsheet (options_in words))
      (λ bytes x. finish (import_output x));
}
