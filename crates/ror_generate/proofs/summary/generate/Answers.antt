use Rattle.std.proofs.Common.{refl, inl}
use Rattle.std.proofs.lemmas.Result.{err_from_is_err_and}
use Rattle.ror_generate.proofs.summary.generate.Goals as goal

pub returns-in_err-summary : goal.returns-in_err-summary
returns-in_err-summary g c =
    let p = err_from_is_err_and c.from_residual.result c.from_residual.ensures.1 in
    rw (p.1, p.2) (inl refl)

pub write_summary-requires : goal.write_summary-requires
write_summary-requires g c = c.in_ok-summary.ensures.1

pub returns-in_err-write_summary : goal.returns-in_err-write_summary
returns-in_err-write_summary g c =
    let p = err_from_is_err_and c.from_residual-in_err-write_summary.result c.from_residual-in_err-write_summary.ensures.1 in
    let failed = c.in_err-write_summary.ensures in
    rw (p.1, p.2) (failed.0, failed.1, _, (c.in_ok-summary.summary.verdicts, c.in_ok-summary.ensures.0, refl), failed.2)

pub returns : goal.returns
returns g c =
    let done = c.in_ok-write_summary.ensures in
    (done.0, tt, _, (c.in_ok-summary.summary.verdicts, c.in_ok-summary.ensures.0, refl, refl), done.1)
