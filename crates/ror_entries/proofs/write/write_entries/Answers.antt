use Rattle.std.proofs.Common.{◌∙◌, ap, sym}
use Rattle.std.proofs.lemmas.Result.{err_from_is_err_and}
use Rattle.ror_report.specs.Text.{end_text}
use Rattle.ror_entries.proofs.WriteLemmas.{entries_stopped, end_cut, all_written}
use Rattle.ror_entries.proofs.write.write_entries.Goals as goal

pub returns-in_err-wide : goal.returns-in_err-wide
returns-in_err-wide g c =
    let p = err_from_is_err_and c.from_residual.result c.from_residual.ensures.1 in
    rw (p.1, p.2) (entries_stopped (g.M.Maker.kind c.args.maker.now) (g.M.Maker.given c.args.maker.now) _ _ _ _ c.in_err-wide.field-0.0 c.in_err-wide.ensures)

pub returns-in_err-write_all : goal.returns-in_err-write_all
returns-in_err-write_all g c =
    let p = err_from_is_err_and c.from_residual-in_err-write_all.result c.from_residual-in_err-write_all.ensures.1 in
    let failed = c.in_err-write_all.ensures in
    let end = c.as_slice.ensures.value ∙ c.in_ok-end.ensures.text ∙ ap end_text c.count-count.ensures in
    rw (p.1, p.2) (end_cut (g.M.Maker.kind c.args.maker.now) (g.M.Maker.given c.args.maker.now) _ _ _ _ _ _ c.in_ok-wide.wide c.in_ok-wide.ensures failed.never_falls failed.failed (rw (sym end) failed.short))

pub returns : goal.returns
returns g c =
    let done = c.in_ok-write_all.ensures in
    let end = c.as_slice.ensures.value ∙ c.in_ok-end.ensures.text ∙ ap end_text c.count-count.ensures in
    all_written (g.M.Maker.kind c.args.maker.now) (g.M.Maker.given c.args.maker.now) _ _ _ _ _ _ c.in_ok-wide.wide c.in_ok-wide.ensures done.ok (rw (sym end) done.all_taken)
