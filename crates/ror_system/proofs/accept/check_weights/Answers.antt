use Rattle.std.proofs.Common.{arith}
use Rattle.std.proofs.lemmas.Result.{err_from_is_err_and}
use Rattle.ror_system.proofs.MultiplierTests.{column_first, columns_more, columns_over}
use Rattle.ror_system.proofs.accept.check_weights.Goals as goal

pub returns-in_err-check_column : goal.returns-in_err-check_column
returns-in_err-check_column c =
    let p = err_from_is_err_and c.from_residual.result c.from_residual.ensures.1 in
    rw (p.1, p.2) (column_first _ _ _ _ _ c.loop-j.invariant c.in_err-check_column.ensures)

pub loop-j-preserved : goal.loop-j-preserved
loop-j-preserved c = columns_more _ _ _ _ c.loop-j.invariant c.in_ok-check_column.ensures

pub returns : goal.returns
returns c = columns_over _ _ _ _ c.columns-j-end.ensures.form c.loop-j.invariant (omega arith)
