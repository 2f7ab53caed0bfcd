use Rattle.std.proofs.lemmas.Result.{err_from_is_err_and}
use Rattle.ror_bench.proofs.RoomLemmas.{undo_stop}
use Rattle.ror_bench.proofs.desk.undo.Goals as goal

pub returns-in_err-undo-clause-no_memory : goal.returns-in_err-undo-clause-no_memory
returns-in_err-undo-clause-no_memory c =
    let exit = err_from_is_err_and c.from_residual.result c.from_residual.ensures.1 in
    rw (exit.1, exit.2) (undo_stop c.args.history.now.state c.in_err-undo.field-0.0 c.in_err-undo.ensures.refused)
