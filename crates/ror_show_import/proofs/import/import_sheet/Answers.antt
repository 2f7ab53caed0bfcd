use Rattle.std.proofs.Common.{◌≡◌, ℕ, List, Ok, false, refl, subst}
use Rattle.std.proofs.lemmas.Result.{err_from_is_err_and}
use Rattle.ror_table.specs.Plain.{plain_table}
use Rattle.ror_frame.specs.Courses.{WritesDue}
use Rattle.ror_frame.specs.Inputs.{line_output}
use Rattle.ror_frame.specs.States.{sink_state}
use Rattle.ror_frame.proofs.CourseLemmas.{stopped, went_on, finished, line_holds}
use Rattle.ror_show_spreadsheet.proofs.ReadBack.{read_back}
use Rattle.ror_show_words.specs.Named.{import_words_of}
use Rattle.ror_show_import.specs.Importing.{options_in}
use Rattle.ror_show_import.proofs.import.import_sheet.Goals as goal

pub returns-in_err-imported : goal.returns-in_err-imported
returns-in_err-imported g c =
    let p = err_from_is_err_and c.from_residual.result c.from_residual.ensures.1 in
    rw (p.1, p.2) (stopped _ 0 _ _ _ _ _ _ _ _ _ refl c.in_err-imported.ensures)

pub returns : goal.returns
returns g c =
    let x = c.in_ok-imported.imported in
    let brought = c.in_ok-imported.ensures in
    let holds = read_back (options_in (import_words_of c.args.words.now)) brought.fetched.1 x brought.fetched.3 in
    let written = subst (λ (t : List ℕ). WritesDue (line_output false t (Unit {0})) (sink_state (g.O.Sink.written c.args.out.now) (g.O.Sink.faults c.args.out.now)) (sink_state (g.O.Sink.written c.write_text.new.out) (g.O.Sink.faults c.write_text.new.out)) c.write_text.result) c.as_slice.ensures c.write_text.ensures in
    let due = line_holds false x.text (plain_table x.text ≡ Ok x.table) _ _ c.write_text.result holds written in
    went_on _ 0 _ _ _ _ _ _ _ _ _ _ _ _ brought (finished 1 _ _ _ _ _ due)
