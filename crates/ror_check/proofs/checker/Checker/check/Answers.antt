use Rattle.std.proofs.Common.{rules, ◌≡◌}
use Rattle.ror_check.proofs.FirstFaults.{answer_refused_in, answer_true_in, answer_not_proved}
use Rattle.ror_check.proofs.checker.Checker.check.Goals as goal

pub returns-clause-refused : goal.returns-clause-refused
returns-clause-refused c =
    let question : c.args.x.now.question ≡ c.args.asked.now = search rules in
    answer_refused_in {A = Unit {0}} c.args.table.now c.args.list.now c.args.asked.now c.args.x.now c.check_verdict.result question c.check_verdict.ensures.err

pub returns-clause-not_proved : goal.returns-clause-not_proved
returns-clause-not_proved c = answer_not_proved {A = Unit {0}} c.args.table.now c.args.list.now c.args.asked.now c.args.x.now c.check_verdict.result (returns-clause-refused c)

pub returns-clause-true_answer : goal.returns-clause-true_answer
returns-clause-true_answer c =
    let question : c.args.x.now.question ≡ c.args.asked.now = search rules in
    answer_true_in {A = Unit {0}} c.args.table.now c.args.list.now c.args.asked.now c.args.x.now c.check_verdict.result c.requires.lawful c.requires.named question c.check_verdict.ensures.ok
