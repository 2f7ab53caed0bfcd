use Rattle.std.proofs.Common.{sym}
use Rattle.std.proofs.lemmas.Result.{err_from_is_err_and}
use Rattle.ror_history.specs.History.{addition}
use Rattle.ror_bench.proofs.CommandLemmas.{statement_refused, added_refused}
use Rattle.ror_bench.proofs.BodyLemmas.{added_made}
use Rattle.ror_bench.proofs.RoomLemmas.{stop_roomy}
use Rattle.ror_bench.proofs.desk.add.Goals as goal

pub returns-in_err-statement-clause-refused : goal.returns-in_err-statement-clause-refused
returns-in_err-statement-clause-refused c =
    let exit = err_from_is_err_and c.from_residual.result c.from_residual.ensures.1 in
    rw (exit.1, exit.2) (statement_refused c.args.table.now c.args.history.now.state c.args.named.now c.in_err-statement.field-0.0 (sym c.in_err-statement.ensures.exact))

pub returns-in_err-number-clause-refused : goal.returns-in_err-number-clause-refused
returns-in_err-number-clause-refused c =
    let exit = err_from_is_err_and c.from_residual-in_err-number.result c.from_residual-in_err-number.ensures.1 in
    rw (exit.1, exit.2) (added_refused c.args.table.now c.args.history.now.state c.args.named.now c.in_ok-statement.statement c.in_err-number.field-0.0 (sym c.in_ok-statement.ensures.exact) c.in_err-number.ensures.refused)

pub returns-clause-made : goal.returns-clause-made
returns-clause-made c = added_made c.args.table.now c.args.history.now.state c.add.new.self.state c.args.named.now c.in_ok-statement.statement c.in_ok-number.number (sym c.in_ok-statement.ensures.exact) c.in_ok-number.ensures.allowed c.in_ok-number.ensures.numbered c.in_ok-number.ensures.added

pub returns-clause-one_more : goal.returns-clause-one_more
returns-clause-one_more c = (addition c.in_ok-number.number c.in_ok-statement.statement, c.in_ok-number.ensures.added)

pub returns-in_err-statement-clause-roomy : goal.returns-in_err-statement-clause-roomy
returns-in_err-statement-clause-roomy c =
    let exit = err_from_is_err_and c.from_residual.result c.from_residual.ensures.1 in
    rw (exit.1, exit.2) (λ is. absurd cc)

pub returns-in_err-number-clause-roomy : goal.returns-in_err-number-clause-roomy
returns-in_err-number-clause-roomy c =
    let exit = err_from_is_err_and c.from_residual-in_err-number.result c.from_residual-in_err-number.ensures.1 in
    rw (exit.1, exit.2) (stop_roomy c.in_err-number.field-0.0 c.args.history.now.spare c.in_err-number.ensures.roomy)
