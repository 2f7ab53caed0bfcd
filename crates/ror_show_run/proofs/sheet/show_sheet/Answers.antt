use Rattle.std.proofs.Common.{ℕ, List, Ok, Err, refl, subst}
use Rattle.std.proofs.lemmas.Result.{err_from_is_err_and}
use Rattle.ror_text.specs.declared.lines.TheConstants.{MOST_TEXT_BYTES}
use Rattle.ror_frame.specs.Courses.{ReadAs}
use Rattle.ror_frame.specs.Inputs.{ReadsTable, RefusesTable}
use Rattle.ror_frame.specs.Stops.{counted}
use Rattle.ror_frame.proofs.CourseLemmas.{stopped, went_on, finished}
use Rattle.ror_frame.proofs.FetchLemmas.{stopped_there, read_there}
use Rattle.ror_frame.proofs.InputLemmas.{long_table}
use Rattle.ror_show_run.proofs.sheet.show_sheet.Goals as goal

pub returns-in_err-bytes : goal.returns-in_err-bytes
returns-in_err-bytes g c =
    let p = err_from_is_err_and c.from_residual.result c.from_residual.ensures.1 in
    rw (p.1, p.2) (stopped _ 0 _ _ _ _ _ _ _ _ _ refl (stopped_there _ (counted 1) _ _ _ _ _ _ _ (long_table c.args.files.now.best_first) c.in_err-bytes.ensures))

pub returns-in_err-input : goal.returns-in_err-input
returns-in_err-input g c =
    let p = err_from_is_err_and c.from_residual-in_err-input.result c.from_residual-in_err-input.ensures.1 in
    let best = c.args.files.now.best_first in
    let reads = subst (λ (bytes : List ℕ). ReadAs (counted 1) (ReadsTable best) (RefusesTable best) bytes (Err c.in_err-input.field-0.0)) c.as_slice.ensures.value c.in_err-input.ensures.read in
    rw (p.1, p.2) (stopped _ 0 _ _ _ _ _ _ _ _ _ refl (read_there _ (counted 1) MOST_TEXT_BYTES _ _ _ _ _ c.in_ok-bytes.bytes _ c.in_ok-bytes.ensures reads))

pub returns-in-Some : goal.returns-in-Some
returns-in-Some g c =
    let best = c.args.files.now.best_first in
    let reads = subst (λ (bytes : List ℕ). ReadAs (counted 1) (ReadsTable best) (RefusesTable best) bytes (Ok c.in_ok-input.input)) c.as_slice.ensures.value c.in_ok-input.ensures.read in
    let fetched = read_there _ (counted 1) MOST_TEXT_BYTES _ _ _ _ _ c.in_ok-bytes.bytes _ c.in_ok-bytes.ensures reads in
    rw c.in-Some.is (went_on _ 0 _ _ _ _ _ _ _ _ _ _ _ _ fetched c.show_session.ensures)

pub returns : goal.returns
returns g c =
    let best = c.args.files.now.best_first in
    let reads = subst (λ (bytes : List ℕ). ReadAs (counted 1) (ReadsTable best) (RefusesTable best) bytes (Ok c.in_ok-input.input)) c.as_slice.ensures.value c.in_ok-input.ensures.read in
    let fetched = read_there _ (counted 1) MOST_TEXT_BYTES _ _ _ _ _ c.in_ok-bytes.bytes _ c.in_ok-bytes.ensures reads in
    rw c.in-None.is (went_on _ 0 _ _ _ _ _ _ _ _ _ _ _ _ fetched (finished 1 _ _ _ _ _ c.show_page.ensures))
