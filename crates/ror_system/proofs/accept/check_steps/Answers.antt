use Rattle.std.proofs.Common.{arith}
use Rattle.std.proofs.lemmas.Result.{err_from_is_err_and}
use Rattle.ror_system.proofs.SolutionTests.{row_first, rows_more, accepted}
use Rattle.ror_system.proofs.accept.check_steps.Goals as goal

pub returns-in_err-check_row : goal.returns-in_err-check_row
returns-in_err-check_row c =
    let p = err_from_is_err_and c.from_residual.result c.from_residual.ensures.1 in
    rw (p.1, p.2) (row_first _ _ _ _ c.loop-place.invariant c.in_err-check_row.ensures)

pub loop-place-preserved : goal.loop-place-preserved
loop-place-preserved c = rows_more _ _ _ c.loop-place.invariant c.in_ok-check_row.ensures

pub returns : goal.returns
returns c = accepted _ _ _ c.loop-place.invariant (omega arith)
