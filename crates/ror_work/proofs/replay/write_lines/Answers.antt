use Rattle.std.proofs.Common.{◌∙◌, sym}
use Rattle.std.proofs.lemmas.Result.{err_from_is_err_and}
use Rattle.ror_work.proofs.Making.{header_cut, blocks_cut, end_unmade, end_cut, report_whole}
use Rattle.ror_work.proofs.replay.write_lines.Goals as goal

pub returns-in_err-write_all : goal.returns-in_err-write_all
returns-in_err-write_all g c =
    let p = err_from_is_err_and c.from_residual.result c.from_residual.ensures.1 in
    let failed = c.in_err-write_all.ensures in
    rw (p.1, p.2) (header_cut _ _ _ _ _ _ _ failed.never_falls failed.failed (rw (sym c.header.ensures) failed.short))

pub returns-in_err-wide : goal.returns-in_err-wide
returns-in_err-wide g c =
    let p = err_from_is_err_and c.from_residual-in_err-wide.result c.from_residual-in_err-wide.ensures.1 in
    let header = c.in_ok-write_all.ensures in
    rw (p.1, p.2) (blocks_cut _ _ _ _ _ _ _ _ _ c.in_err-wide.field-0.0 header.ok (rw (sym c.header.ensures) header.all_taken) c.in_err-wide.ensures)

pub returns-in_err-end : goal.returns-in_err-end
returns-in_err-end g c =
    let p = err_from_is_err_and c.from_residual-in_err-end.result c.from_residual-in_err-end.ensures.1 in
    let header = c.in_ok-write_all.ensures in
    rw (p.1, p.2) (end_unmade _ _ _ _ _ _ _ _ _ _ header.ok (rw (sym c.header.ensures) header.all_taken) c.in_ok-wide.ensures)

pub returns-in_err-write_all-2 : goal.returns-in_err-write_all-2
returns-in_err-write_all-2 g c =
    let p = err_from_is_err_and c.from_residual-in_err-write_all-2.result c.from_residual-in_err-write_all-2.ensures.1 in
    let header = c.in_ok-write_all.ensures in
    let failed = c.in_err-write_all-2.ensures in
    rw (p.1, p.2) (end_cut _ _ _ _ _ _ _ _ _ _ _ _ header.ok (rw (sym c.header.ensures) header.all_taken) c.in_ok-wide.ensures failed.never_falls failed.failed (rw (sym (c.as_slice.ensures.value ∙ c.in_ok-end.ensures.text)) failed.short))

pub returns : goal.returns
returns g c =
    let header = c.in_ok-write_all.ensures in
    let done = c.in_ok-write_all-2.ensures in
    report_whole _ _ _ _ _ _ _ _ _ _ _ _ c.requires.lawful header.ok (rw (sym c.header.ensures) header.all_taken) c.in_ok-wide.ensures done.ok (rw (sym (c.as_slice.ensures.value ∙ c.in_ok-end.ensures.text)) done.all_taken)
