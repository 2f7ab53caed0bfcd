use Rattle.std.proofs.Common.{rules, ◌≡◌, Option, Some, None, sym, subst}
use Rattle.ror_statement.specs.declared.question.Conclusion.{Conclusion}
use Rattle.ror_show_find_core.specs.Cores.{carried_conclusion, IsCoreOf}
use Rattle.ror_show_find_core.proofs.Judging.{carried_answer}
use Rattle.ror_show_find_core.proofs.cores.core_of.Goals as goal

pub find_withdrawals-requires-clause-carried : goal.find_withdrawals-requires-clause-carried
find_withdrawals-requires-clause-carried c =
    let s = c.args.stood.now in
    let is : carried_conclusion c.args.answer.now.question c.args.answer.now.verdict ≡ Some c.in-Some.conclusion = search rules in
    carried_answer s.table.now s.list.now c.args.answer.now c.in-Some.conclusion c.requires.stood.lawful c.requires.sound is

pub returns-in_ok-withdrawals-in-Some : goal.returns-in_ok-withdrawals-in-Some
returns-in_ok-withdrawals-in-Some c =
    let s = c.args.stood.now in
    let is : carried_conclusion c.args.answer.now.question c.args.answer.now.verdict ≡ Some c.in-Some.conclusion = search rules in
    subst (λ (o : Option Conclusion). IsCoreOf s.table.now s.list.now c.args.answer.now.question c.args.numbers.now o (record { withdrawals = c.in_ok-withdrawals-in-Some.withdrawals })) (sym is) c.in_ok-withdrawals-in-Some.ensures

pub returns-in-None : goal.returns-in-None
returns-in-None c =
    let s = c.args.stood.now in
    let is : carried_conclusion c.args.answer.now.question c.args.answer.now.verdict ≡ None = search rules in
    subst (λ (o : Option Conclusion). IsCoreOf s.table.now s.list.now c.args.answer.now.question c.args.numbers.now o c.no_core.result) (sym is) c.no_core.ensures
