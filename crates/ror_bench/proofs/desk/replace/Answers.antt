use Rattle.std.proofs.Common.{sym}
use Rattle.std.proofs.lemmas.Result.{err_from_is_err_and}
use Rattle.ror_bench.proofs.CommandLemmas.{replacement_refused, replaced_refused}
use Rattle.ror_bench.proofs.BodyLemmas.{replaced_made}
use Rattle.ror_bench.proofs.RoomLemmas.{stop_roomy}
use Rattle.ror_bench.proofs.desk.replace.Goals as goal

pub returns-in_err-statement-clause-refused : goal.returns-in_err-statement-clause-refused
returns-in_err-statement-clause-refused c =
    let exit = err_from_is_err_and c.from_residual.result c.from_residual.ensures.1 in
    rw (exit.1, exit.2) (replacement_refused c.args.table.now c.args.history.now.state c.args.number c.args.named.now c.in_err-statement.field-0.0 (sym c.in_err-statement.ensures.exact))

pub returns-in_err-replace-clause-refused : goal.returns-in_err-replace-clause-refused
returns-in_err-replace-clause-refused c =
    let exit = err_from_is_err_and c.from_residual-in_err-replace.result c.from_residual-in_err-replace.ensures.1 in
    rw (exit.1, exit.2) (replaced_refused c.args.table.now c.args.history.now.state c.args.number c.args.named.now c.in_ok-statement.statement c.in_err-replace.field-0.0 (sym c.in_ok-statement.ensures.exact) c.in_err-replace.ensures.refused)

pub returns-clause-made : goal.returns-clause-made
returns-clause-made c = replaced_made c.args.table.now c.args.history.now.state c.replace.new.self.state c.args.named.now c.in_ok-statement.statement c.args.number (sym c.in_ok-statement.ensures.exact) c.in_ok-replace.ensures.allowed c.in_ok-replace.ensures.replaced

pub returns-in_err-statement-clause-roomy : goal.returns-in_err-statement-clause-roomy
returns-in_err-statement-clause-roomy c =
    let exit = err_from_is_err_and c.from_residual.result c.from_residual.ensures.1 in
    rw (exit.1, exit.2) (λ is. absurd cc)

pub returns-in_err-replace-clause-roomy : goal.returns-in_err-replace-clause-roomy
returns-in_err-replace-clause-roomy c =
    let exit = err_from_is_err_and c.from_residual-in_err-replace.result c.from_residual-in_err-replace.ensures.1 in
    rw (exit.1, exit.2) (stop_roomy c.in_err-replace.field-0.0 c.args.history.now.spare c.in_err-replace.ensures.roomy)
