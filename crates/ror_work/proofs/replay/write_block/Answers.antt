use Rattle.std.proofs.Common.{refl, ◌∙◌, sym}
use Rattle.std.proofs.lemmas.Result.{err_from_is_err_and}
use Rattle.ror_work.proofs.replay.write_block.Goals as goal

pub returns-in_err-text : goal.returns-in_err-text
returns-in_err-text g c =
    let p = err_from_is_err_and c.from_residual.result c.from_residual.ensures.1 in
    rw (p.1, p.2) (refl, refl)

pub returns-in_err-write_all : goal.returns-in_err-write_all
returns-in_err-write_all g c =
    let p = err_from_is_err_and c.from_residual-in_err-write_all.result c.from_residual-in_err-write_all.ensures.1 in
    let failed = c.in_err-write_all.ensures in
    rw (p.1, p.2) (failed.never_falls, failed.failed, rw (sym (c.as_slice.ensures.value ∙ c.in_ok-text.ensures.text)) failed.short)

pub returns : goal.returns
returns g c =
    let done = c.in_ok-write_all.ensures in
    (done.ok, rw (sym (c.as_slice.ensures.value ∙ c.in_ok-text.ensures.text)) done.all_taken)
