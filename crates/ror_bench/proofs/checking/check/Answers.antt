use Rattle.std.proofs.Common.{sym, subst}
use Rattle.std.specs.Prelude.{OnOk}
use Rattle.ror_session.specs.declared.session.Command.{Command}
use Rattle.ror_session.specs.declared.session.Command.TheVariants.{State, Withdraw, Replace}
use Rattle.ror_bench.specs.Allowed.{proved_unless_wide}
use Rattle.ror_bench.specs.Blocks.{IsBodyOf}
use Rattle.ror_bench.proofs.BodyLemmas.{settled_body}
use Rattle.ror_bench.proofs.checking.check.Goals as goal

pub returns-in-State-clause-body : goal.returns-in-State-clause-body
returns-in-State-clause-body c =
    let t = c.args.table.now in
    let r = c.args.history.now.state in
    subst (λ (command : Command). OnOk c.settle.result (IsBodyOf proved_unless_wide t r command c.args.body.now)) (sym c.in-State.is)
    (settled_body t r c.add-made.new.history.state (State c.in-State.named) proved_unless_wide c.add-made.result c.args.body.now c.settle.result c.add-made.ensures.made c.add-made.ensures.refused c.settle.ensures.said)

pub returns-in-Withdraw-clause-body : goal.returns-in-Withdraw-clause-body
returns-in-Withdraw-clause-body c =
    let t = c.args.table.now in
    let r = c.args.history.now.state in
    subst (λ (command : Command). OnOk c.settle-in-Withdraw.result (IsBodyOf proved_unless_wide t r command c.args.body.now)) (sym c.in-Withdraw.is)
    (settled_body t r c.withdraw-made.new.history.state (Withdraw c.in-Withdraw.number) proved_unless_wide c.withdraw-made.result c.args.body.now c.settle-in-Withdraw.result c.withdraw-made.ensures.made c.withdraw-made.ensures.refused c.settle-in-Withdraw.ensures.said)

pub returns-in-Replace-clause-body : goal.returns-in-Replace-clause-body
returns-in-Replace-clause-body c =
    let t = c.args.table.now in
    let r = c.args.history.now.state in
    subst (λ (command : Command). OnOk c.settle-in-Replace.result (IsBodyOf proved_unless_wide t r command c.args.body.now)) (sym c.in-Replace.is)
    (settled_body t r c.replace-made.new.history.state (Replace c.in-Replace.number c.in-Replace.named) proved_unless_wide c.replace-made.result c.args.body.now c.settle-in-Replace.result c.replace-made.ensures.made c.replace-made.ensures.refused c.settle-in-Replace.ensures.said)
