use Rattle.std.proofs.Common.{◌≡◌, List, sym, subst}
use Rattle.std.specs.List.{AllByRecursion}
use Rattle.ror_statement.specs.declared.statement.Statement.{Statement}
use Rattle.ror_value.specs.Over.{IsLawfulIn}
use Rattle.ror_check.specs.Proof.{IsWideOrProved}
use Rattle.ror_history.specs.History.{statements_of}
use Rattle.ror_bench.proofs.AnswerLemmas.{asked_each, each_proved}
use Rattle.ror_bench.proofs.LawfulLemmas.{lawful_now}
use Rattle.ror_bench.proofs.checking.check_each.Goals as goal

pub check-requires-clause-lawful : goal.check-requires-clause-lawful
check-requires-clause-lawful c =
    let t = c.args.table.now in
    let r = c.args.history.now.state in
    let list : c.in_ok-list.list.items ≡ statements_of r = c.in_ok-list.ensures in
    subst (IsLawfulIn t) (sym list) (lawful_now t r c.requires.lawful)

pub check-requires-clause-named : goal.check-requires-clause-named
check-requires-clause-named c =
    asked_each c.args.table.now c.args.questions.now c.args.answers.now (c.are_to.ensures.0 c.if-not-are_to.false) c.requires.asked

pub returns-clause-each : goal.returns-clause-each
returns-clause-each c =
    let t = c.args.table.now in
    let r = c.args.history.now.state in
    let list : c.in_ok-list.list.items ≡ statements_of r = c.in_ok-list.ensures in
    each_proved t (statements_of r) c.args.questions.now c.args.answers.now (c.are_to.ensures.0 c.if-not-are_to.false)
    (subst (λ (l : List Statement). AllByRecursion (λ x. IsWideOrProved t l x.question x.verdict) c.args.answers.now) list c.in_ok-check.ensures.accepted)
