use Rattle.std.proofs.Common.{ℕ, List, false, inl, refl, subst}
use Rattle.std.proofs.lemmas.Result.{err_from_is_err_and}
use Rattle.ror_frame.specs.Courses.{WritesDue}
use Rattle.ror_frame.specs.Inputs.{line_output}
use Rattle.ror_frame.specs.States.{sink_state}
use Rattle.ror_show_words.specs.Named.{page_words_of}
use Rattle.ror_show_ground.specs.Grounds.{ground_of}
use Rattle.ror_show_pages.specs.Pages.{page_of}
use Rattle.ror_show_pages.specs.Shown.{IsShown}
use Rattle.ror_show_run.proofs.Showing.{page_due}
use Rattle.ror_show_run.proofs.show.write_page.Goals as goal

pub returns-in_err-page : goal.returns-in_err-page
returns-in_err-page g c =
    let p = err_from_is_err_and c.from_residual.result c.from_residual.ensures.1 in
    rw (p.1, p.2) (inl refl)

pub returns-in_err-names : goal.returns-in_err-names
returns-in_err-names g c =
    let p = err_from_is_err_and c.from_residual-in_err-names.result c.from_residual-in_err-names.ensures.1 in
    rw (p.1, p.2) (inl refl)

pub returns-in_err-text : goal.returns-in_err-text
returns-in_err-text g c =
    let p = err_from_is_err_and c.from_residual-in_err-text.result c.from_residual-in_err-text.ensures.1 in
    rw (p.1, p.2) (inl refl)

pub returns : goal.returns
returns g c =
    let begun = c.args.begun.now in
    let file = begun.file.now in
    let words = page_words_of begun.words.now in
    let page = c.in_ok-page.page.items in
    let text = c.in_ok-text.text.items in
    let shown = subst (λ (of_page : List ℕ). IsShown words.form file of_page text) c.as_slice.ensures.value c.in_ok-text.ensures in
    let written = subst (λ (t : List ℕ). WritesDue (line_output false t (Unit {0})) (sink_state (g.O.Sink.written c.args.out.now) (g.O.Sink.faults c.args.out.now)) (sink_state (g.O.Sink.written c.write_text.new.out) (g.O.Sink.faults c.write_text.new.out)) c.write_text.result) c.as_slice-3.ensures.value c.write_text.ensures in
    page_due (page_of begun.page words.form) words file (ground_of c.args.ground.now) page text _ _ c.write_text.result c.in_ok-page.ensures shown written
