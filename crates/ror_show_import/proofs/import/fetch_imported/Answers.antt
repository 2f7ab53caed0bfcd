use Rattle.std.proofs.Common.{ℕ, List, subst}
use Rattle.std.proofs.lemmas.Result.{err_from_is_err_and}
use Rattle.ror_text.specs.declared.lines.TheConstants.{MOST_TEXT_BYTES}
use Rattle.ror_frame.specs.Courses.{ReadAs}
use Rattle.ror_frame.specs.Stops.{counted}
use Rattle.ror_frame.proofs.FetchLemmas.{stopped_there, read_there}
use Rattle.ror_show_words.specs.Named.{import_words_of}
use Rattle.ror_show_import.specs.Importing.{ReadsSpreadsheet, RefusesSpreadsheet, options_in}
use Rattle.ror_show_import.proofs.Importing.{long_sheet}
use Rattle.ror_show_import.proofs.import.fetch_imported.Goals as goal

pub returns-in_err-bytes : goal.returns-in_err-bytes
returns-in_err-bytes g c =
    let p = err_from_is_err_and c.from_residual.result c.from_residual.ensures.1 in
    rw (p.1, p.2) (stopped_there _ (counted 1) _ _ _ _ _ _ _ (long_sheet (options_in (import_words_of c.args.words.now))) c.in_err-bytes.ensures)

pub returns : goal.returns
returns g c =
    let o = options_in (import_words_of c.args.words.now) in
    let reads = subst (λ (bytes : List ℕ). ReadAs (counted 1) (ReadsSpreadsheet o) (RefusesSpreadsheet o) bytes c.imported_in.result) c.as_slice.ensures.value c.imported_in.ensures in
    read_there _ (counted 1) MOST_TEXT_BYTES _ _ _ _ _ c.in_ok-bytes.bytes _ c.in_ok-bytes.ensures reads
