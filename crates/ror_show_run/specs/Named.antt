-- What a sheet is of, as values.
use Rattle.std.specs.Prelude.{option_map}
use Rattle.ror_show_run.specs.declared.sheet.SheetFiles.{SheetFiles}
use Rattle.ror_show_run.specs.Sheets.{SheetNames}

abbrev pub sheet_names_of : SheetFiles → SheetNames
sheet_names_of files = record {
  table = files.table.now;
  session = option_map (λ name. name.now) files.session;
  best_first = files.best_first;
}
