use Rattle.std.proofs.Common.{ℕ, List, false, inl, refl, subst}
use Rattle.std.proofs.lemmas.Result.{err_from_is_err_and}
use Rattle.ror_frame.specs.Courses.{WritesDue}
use Rattle.ror_frame.specs.Inputs.{line_output}
use Rattle.ror_frame.specs.States.{sink_state}
use Rattle.ror_show_run.proofs.Sheets.{sheet_due}
use Rattle.ror_show_run.proofs.sheet.show_page.Goals as goal

pub returns-in_err-text : goal.returns-in_err-text
returns-in_err-text g c =
    let p = err_from_is_err_and c.from_residual.result c.from_residual.ensures.1 in
    rw (p.1, p.2) (inl refl)

pub returns : goal.returns
returns g c =
    let text = c.in_ok-text.text in
    let written = subst (λ (t : List ℕ). WritesDue (line_output false t (Unit {0})) (sink_state (g.O.Sink.written c.args.out.now) (g.O.Sink.faults c.args.out.now)) (sink_state (g.O.Sink.written c.write_text.new.out) (g.O.Sink.faults c.write_text.new.out)) c.write_text.result) c.as_slice.ensures.value c.write_text.ensures in
    sheet_due c.args.papers.now.input.now text.items _ _ c.write_text.result c.in_ok-text.ensures written
