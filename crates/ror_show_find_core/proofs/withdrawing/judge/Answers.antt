use Rattle.std.proofs.Common.{rules, ◌≡◌, true, false}
use Rattle.ror_statement.specs.Statements.{statements_in}
use Rattle.ror_check.specs.Proof.{is_wide}
use Rattle.ror_reason.specs.Reducts.{Concludes}
use Rattle.ror_show_find_core.proofs.Judging.{too_wide, proved, goes}
use Rattle.ror_show_find_core.proofs.withdrawing.judge.Goals as goal

pub returns-then-is_wide : goal.returns-then-is_wide
returns-then-is_wide c =
    let wide : is_wide c.args.answer.now.verdict ≡ true = search rules in
    too_wide c.args.table.now c.args.left.now c.args.claim.question c.args.answer.now c.requires.allowed wide

pub returns-then-not-concludes : goal.returns-then-not-concludes
returns-then-not-concludes c =
    let narrow : is_wide c.args.answer.now.verdict ≡ false = search rules in
    let other : Concludes c.args.claim.conclusion c.args.answer.now.verdict → ⊥ = search rules in
    goes c.args.table.now c.args.left.now c.args.claim.question c.args.claim.conclusion c.args.answer.now c.requires.left c.requires.allowed narrow other

pub stay-requires-clause-proved : goal.stay-requires-clause-proved
stay-requires-clause-proved c =
    let narrow : is_wide c.args.answer.now.verdict ≡ false = search rules in
    proved c.args.table.now (statements_in c.args.left.now) c.args.claim.question c.args.answer.now c.requires.allowed narrow
