use Rattle.std.proofs.Common.{sym, subst, arith}
use Rattle.std.specs.Prelude.{IfOk}
use Rattle.ror_pivot.specs.Answers.{most_of}
use Rattle.ror_session.specs.declared.session.Command.{Command}
use Rattle.ror_session.specs.declared.session.Command.TheVariants.{State, Withdraw, Replace, Repair, Undo, Ask}
use Rattle.ror_report.specs.declared.block.Body.TheVariants as bodies
use Rattle.ror_bench.specs.Allowed.{given_at}
use Rattle.ror_bench.specs.Blocks.{IsBodyOf}
use Rattle.ror_bench.proofs.BodyLemmas.{given_body}
use Rattle.ror_bench.proofs.AnswerLemmas.{answers_body, stop_refused}
use Rattle.ror_bench.proofs.RoomLemmas.{said_ready, undo_ready, needs_search, room_as}
use Rattle.ror_bench.proofs.desk.perform.Goals as goal

pub returns-in-State-clause-body : goal.returns-in-State-clause-body
returns-in-State-clause-body c =
    let t = c.args.table.now in
    let r = c.args.history.now.state in
    let given = given_at (most_of c.args.bits) in
    subst (λ (command : Command). IfOk c.said.result (IsBodyOf given t r command)) (sym c.in-State.is)
    (given_body given t r c.add.new.history.state (State c.in-State.named) c.add.result c.said.result c.add.ensures.made c.add.ensures.refused c.said.ensures.body)

pub returns-in-Withdraw-clause-body : goal.returns-in-Withdraw-clause-body
returns-in-Withdraw-clause-body c =
    let t = c.args.table.now in
    let r = c.args.history.now.state in
    let given = given_at (most_of c.args.bits) in
    subst (λ (command : Command). IfOk c.said-in-Withdraw.result (IsBodyOf given t r command)) (sym c.in-Withdraw.is)
    (given_body given t r c.withdraw.new.history.state (Withdraw c.in-Withdraw.number) c.withdraw.result c.said-in-Withdraw.result c.withdraw.ensures.made c.withdraw.ensures.refused c.said-in-Withdraw.ensures.body)

pub returns-in-Replace-clause-body : goal.returns-in-Replace-clause-body
returns-in-Replace-clause-body c =
    let t = c.args.table.now in
    let r = c.args.history.now.state in
    let given = given_at (most_of c.args.bits) in
    subst (λ (command : Command). IfOk c.said-in-Replace.result (IsBodyOf given t r command)) (sym c.in-Replace.is)
    (given_body given t r c.replace.new.history.state (Replace c.in-Replace.number c.in-Replace.named) c.replace.result c.said-in-Replace.result c.replace.ensures.made c.replace.ensures.refused c.said-in-Replace.ensures.body)

pub returns-in-Undo-clause-body : goal.returns-in-Undo-clause-body
returns-in-Undo-clause-body c =
    let t = c.args.table.now in
    let r = c.args.history.now.state in
    let given = given_at (most_of c.args.bits) in
    subst (λ (command : Command). IfOk c.said-in-Undo.result (IsBodyOf given t r command)) (sym c.in-Undo.is)
    (given_body given t r c.undo.new.history.state (Undo) c.undo.result c.said-in-Undo.result c.undo.ensures.made c.undo.ensures.refused c.said-in-Undo.ensures.body)

pub returns-in-Ok-clause-body : goal.returns-in-Ok-clause-body
returns-in-Ok-clause-body c =
    let t = c.args.table.now in
    let r = c.args.history.now.state in
    let given = given_at (most_of c.args.bits) in
    subst (λ (command : Command). IsBodyOf given t r command (bodies.Answers c.from.result)) (sym c.in-Ask.is)
    (answers_body given t r c.in-Ask.asked c.in-Ok.answers.items c.from.result c.from.ensures c.in-Ok.ensures.answers)

pub returns-in-Err-Refused-clause-body : goal.returns-in-Err-Refused-clause-body
returns-in-Err-Refused-clause-body c =
    let t = c.args.table.now in
    let r = c.args.history.now.state in
    let given = given_at (most_of c.args.bits) in
    subst (λ (command : Command). IsBodyOf given t r command (bodies.Refused c.in-Err-Refused.fault)) (sym c.in-Ask.is)
    (stop_refused given t r (Ask c.in-Ask.asked) c.in-Err-Refused.field-0 c.in-Err-Refused.fault c.in-Err-Refused.field-0-is c.in-Err-Refused.ensures.refused)

pub returns-in-State-clause-ready : goal.returns-in-State-clause-ready
returns-in-State-clause-ready c = λ some plain. said_ready c.add.result c.said.result c.args.history.now.spare c.said.ensures.memory c.add.ensures.roomy some

pub returns-in-State-clause-room : goal.returns-in-State-clause-room
returns-in-State-clause-room c = room_as c.args.command.now (State c.in-State.named) c.args.history.now.spare c.add.new.history.spare c.in-State.is c.add.ensures.room

pub returns-in-Withdraw-clause-ready : goal.returns-in-Withdraw-clause-ready
returns-in-Withdraw-clause-ready c = λ some plain. said_ready c.withdraw.result c.said-in-Withdraw.result c.args.history.now.spare c.said-in-Withdraw.ensures.memory c.withdraw.ensures.roomy some

pub returns-in-Withdraw-clause-room : goal.returns-in-Withdraw-clause-room
returns-in-Withdraw-clause-room c = room_as c.args.command.now (Withdraw c.in-Withdraw.number) c.args.history.now.spare c.withdraw.new.history.spare c.in-Withdraw.is c.withdraw.ensures.room

pub returns-in-Replace-clause-ready : goal.returns-in-Replace-clause-ready
returns-in-Replace-clause-ready c = λ some plain. said_ready c.replace.result c.said-in-Replace.result c.args.history.now.spare c.said-in-Replace.ensures.memory c.replace.ensures.roomy some

pub returns-in-Replace-clause-room : goal.returns-in-Replace-clause-room
returns-in-Replace-clause-room c = room_as c.args.command.now (Replace c.in-Replace.number c.in-Replace.named) c.args.history.now.spare c.replace.new.history.spare c.in-Replace.is c.replace.ensures.room

pub returns-in-Undo-clause-ready : goal.returns-in-Undo-clause-ready
returns-in-Undo-clause-ready c = λ some plain. undo_ready c.undo.result c.said-in-Undo.result c.said-in-Undo.ensures.memory c.undo.ensures.no_memory

pub returns-in-Undo-clause-room : goal.returns-in-Undo-clause-room
returns-in-Undo-clause-room c = let room = c.undo.ensures.room in omega (arith, room)

pub returns-in-Repair-clause-ready : goal.returns-in-Repair-clause-ready
returns-in-Repair-clause-ready c = λ some plain. absurd (needs_search c.args.command.now Repair c.in-Repair.is (λ no. no) plain)

pub returns-in-Repair-clause-room : goal.returns-in-Repair-clause-room
returns-in-Repair-clause-room c = room_as c.args.command.now Repair c.args.history.now.spare c.repair_at.new.history.spare c.in-Repair.is c.repair_at.ensures.room
