use Rattle.std.proofs.Common.{rules, ◌≡◌, true, false}
use Rattle.std.proofs.lemmas.Result.{IfOk-weaker}
use Rattle.ror_statement.specs.Statements.{statements_in}
use Rattle.ror_check.specs.Proof.{is_wide}
use Rattle.ror_show_find_reasons.proofs.ToldLemmas.{proved, told_wide, told_reason}
use Rattle.ror_show_find_reasons.proofs.telling.find_reason.Goals as goal

pub told_by-requires-clause-proved : goal.told_by-requires-clause-proved
told_by-requires-clause-proved c =
    let s = c.args.stood.now in
    let narrow : is_wide c.args.answer.now.verdict ≡ false = search rules in
    proved s.table.now (statements_in s.list.now) c.args.answer.now narrow c.requires.sound

pub returns-then-is_wide : goal.returns-then-is_wide
returns-then-is_wide c =
    let s = c.args.stood.now in
    let x = c.args.answer.now in
    let wide : is_wide c.args.answer.now.verdict ≡ true = search rules in
    told_wide s.table.now s.list.now x.question x.verdict wide

pub returns : goal.returns
returns c =
    let s = c.args.stood.now in
    let x = c.args.answer.now in
    let narrow : is_wide c.args.answer.now.verdict ≡ false = search rules in
    IfOk-weaker c.told_by.result _ _
    (λ told has. told_reason s.table.now s.list.now x.question x.verdict told narrow has)
    c.told_by.ensures
