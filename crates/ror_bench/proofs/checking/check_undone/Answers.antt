use Rattle.std.proofs.Common.{Err}
use Rattle.ror_session.specs.declared.session.Command.TheVariants.{Undo}
use Rattle.ror_report.specs.declared.block.LineFault.TheVariants as lines
use Rattle.ror_bench.specs.declared.stop.LineStop.TheVariants as stops
use Rattle.ror_bench.specs.Allowed.{proved_unless_wide}
use Rattle.ror_bench.proofs.BodyLemmas.{settled_body, nothing_refused}
use Rattle.ror_bench.proofs.checking.check_undone.Goals as goal

pub returns-then-not-is_body_of-clause-body : goal.returns-then-not-is_body_of-clause-body
returns-then-not-is_body_of-clause-body c =
    let r = c.args.history.now.state in
    let t = c.args.table.now in
    settled_body t r r Undo proved_unless_wide (Err (stops.Refused lines.NothingToUndo)) c.args.body.now c.check_refused.result tt (nothing_refused t r (λ some. let yes = c.can_undo.ensures.1 some in let no = c.if-can_undo.false in absurd cc)) c.check_refused.ensures.said
