use Rattle.std.proofs.Common.{ℕ, List, [], ◌∷◌, Err, refl, subst}
use Rattle.std.proofs.lemmas.Result.{err_from_is_err_and}
use Rattle.ror_text.specs.declared.lines.TheConstants.{MOST_TEXT_BYTES}
use Rattle.ror_xmcda.proofs.TableLemmas.{input_table}
use Rattle.ror_frame.specs.Courses.{ReadAs, IsWork}
use Rattle.ror_frame.specs.Inputs.{ReadsTable, RefusesTable}
use Rattle.ror_frame.specs.States.{shelf_state, sink_state}
use Rattle.ror_frame.specs.Stops.{counted}
use Rattle.ror_frame.proofs.CourseLemmas.{stopped}
use Rattle.ror_frame.proofs.FetchLemmas.{stopped_there, read_there}
use Rattle.ror_frame.proofs.InputLemmas.{long_table}
use Rattle.ror_show_words.specs.Named.{page_words_of}
use Rattle.ror_show_run.specs.Groups.{session_course}
use Rattle.ror_show_run.proofs.Showing.{read_on}
use Rattle.ror_show_run.proofs.group.show_group.Goals as goal

pub returns-in_err-file : goal.returns-in_err-file
returns-in_err-file g c =
    let p = err_from_is_err_and c.from_residual.result c.from_residual.ensures.1 in
    rw (p.1, p.2) (stopped _ 0 _ _ _ _ _ _ _ _ _ refl (stopped_there _ (counted 1) _ _ _ _ _ _ _ (long_table c.args.words.now.best_first) c.in_err-file.ensures))

pub returns-in_err-input : goal.returns-in_err-input
returns-in_err-input g c =
    let p = err_from_is_err_and c.from_residual-in_err-input.result c.from_residual-in_err-input.ensures.1 in
    let best = c.args.words.now.best_first in
    let reads = subst (λ (bytes : List ℕ). ReadAs (counted 1) (ReadsTable best) (RefusesTable best) bytes (Err c.in_err-input.field-0.0)) c.as_slice.ensures.value c.in_err-input.ensures.read in
    rw (p.1, p.2) (stopped _ 0 _ _ _ _ _ _ _ _ _ refl (read_there _ (counted 1) MOST_TEXT_BYTES _ _ _ _ _ c.in_ok-file.file _ c.in_ok-file.ensures reads))

pub show_judges-requires-clause-table : goal.show_judges-requires-clause-table
show_judges-requires-clause-table g c = input_table c.as_slice.result.now c.args.words.now.best_first c.in_ok-input.input c.in_ok-input.ensures.read

pub returns : goal.returns
returns g c =
    let best = c.args.words.now.best_first in
    let words = page_words_of c.args.words.now in
    let input = c.in_ok-input.input in
    let file = c.in_ok-file.file in
    let reads = subst (λ (bytes : List ℕ). ReadsTable best bytes input) c.as_slice.ensures.value c.in_ok-input.ensures.read in
    let rest = subst (λ (bytes : List ℕ). IsWork 1 (words.session ∷ words.report ∷ []) (session_course words bytes input) (shelf_state (g.F.Shelf.told c.fetch_whole.new.shelf) (g.F.Shelf.faults c.fetch_whole.new.shelf) (g.F.Shelf.fetch_count c.fetch_whole.new.shelf)) (shelf_state (g.F.Shelf.told c.show_judges.new.shelf) (g.F.Shelf.faults c.show_judges.new.shelf) (g.F.Shelf.fetch_count c.show_judges.new.shelf)) (sink_state (g.O.Sink.written c.args.out.now) (g.O.Sink.faults c.args.out.now)) (sink_state (g.O.Sink.written c.show_judges.new.out) (g.O.Sink.faults c.show_judges.new.out)) c.show_judges.result) c.as_slice-2.ensures.value c.show_judges.ensures in
    read_on _ 0 _ (counted 1) MOST_TEXT_BYTES _ _ _ _ _ _ _ _ _ file input _ c.in_ok-file.ensures reads rest
