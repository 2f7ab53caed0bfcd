use Rattle.std.proofs.lemmas.Result.{err_from_is_err_and}
use Rattle.ror_bench.proofs.report.check_report.Goals as goal

pub returns-in_err-accepted-clause-not_proved : goal.returns-in_err-accepted-clause-not_proved
returns-in_err-accepted-clause-not_proved c =
    let p = err_from_is_err_and c.from_residual.result c.from_residual.ensures.1 in
    rw (p.1, p.2) c.in_err-accepted.ensures.not_proved
