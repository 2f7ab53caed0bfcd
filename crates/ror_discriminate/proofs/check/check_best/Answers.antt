use Rattle.std.proofs.Common.{subst}
use Rattle.ror_table.specs.Table.{columns}
use Rattle.ror_pivot.specs.Optimality.{AreTops}
use Rattle.ror_discriminate.proofs.Checked.{checked_of_list, checked_margin, checked_best, checked_not_accepted}
use Rattle.ror_discriminate.proofs.check.check_best.Goals as goal

pub returns-clause-margin : goal.returns-clause-margin
returns-clause-margin c =
    let t = c.args.table.now in
    let list = c.args.list.now in
    let x = c.args.x.now in
    checked_margin t list x c.check_system.result c.requires.lawful (checked_of_list t list c.in_ok-system.system c.in_ok-top.top x c.check_system.result c.in_ok-system.ensures.system c.in_ok-top.ensures.value c.check_system.ensures)

pub returns-clause-best : goal.returns-clause-best
returns-clause-best c =
    let t = c.args.table.now in
    let list = c.args.list.now in
    let x = c.args.x.now in
    let are = subst (AreTops (columns t)) c.in_ok-top.ensures.value c.in_ok-top.ensures.tops in
    checked_best t list x c.check_system.result c.requires.lawful are (checked_of_list t list c.in_ok-system.system c.in_ok-top.top x c.check_system.result c.in_ok-system.ensures.system c.in_ok-top.ensures.value c.check_system.ensures)

pub returns-clause-not_accepted : goal.returns-clause-not_accepted
returns-clause-not_accepted c =
    let t = c.args.table.now in
    let list = c.args.list.now in
    let x = c.args.x.now in
    checked_not_accepted t list x c.check_system.result (checked_of_list t list c.in_ok-system.system c.in_ok-top.top x c.check_system.result c.in_ok-system.ensures.system c.in_ok-top.ensures.value c.check_system.ensures)
