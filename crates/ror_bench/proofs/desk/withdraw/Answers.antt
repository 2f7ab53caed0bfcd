use Rattle.std.proofs.lemmas.Result.{err_from_is_err_and}
use Rattle.ror_bench.proofs.CommandLemmas.{withdrawn_refused}
use Rattle.ror_bench.proofs.RoomLemmas.{stop_roomy}
use Rattle.ror_bench.proofs.desk.withdraw.Goals as goal

pub returns-in_err-withdraw-clause-refused : goal.returns-in_err-withdraw-clause-refused
returns-in_err-withdraw-clause-refused c =
    let exit = err_from_is_err_and c.from_residual.result c.from_residual.ensures.1 in
    rw (exit.1, exit.2) (withdrawn_refused c.args.table.now c.args.history.now.state c.args.number c.in_err-withdraw.field-0.0 c.in_err-withdraw.ensures.refused)

pub returns-in_err-withdraw-clause-roomy : goal.returns-in_err-withdraw-clause-roomy
returns-in_err-withdraw-clause-roomy c =
    let exit = err_from_is_err_and c.from_residual.result c.from_residual.ensures.1 in
    rw (exit.1, exit.2) (stop_roomy c.in_err-withdraw.field-0.0 c.args.history.now.spare c.in_err-withdraw.ensures.roomy)
