use Rattle.std.proofs.Common.{rules, ◌≡◌, Some, None}
use Rattle.std.specs.List.{find}
use Rattle.std.proofs.lemmas.Result.{IfOk-weaker}
use Rattle.ror_statement.specs.Statements.{statements_in}
use Rattle.ror_show_ground.specs.Sound.{IsSoundAnswer}
use Rattle.ror_show_find_reasons.specs.Pairs.{denies_back}
use Rattle.ror_show_find_reasons.proofs.Found.{found_passes, found_has}
use Rattle.ror_show_find_reasons.proofs.Better.{proved_back, better_by_one, better_by_none}
use Rattle.ror_show_find_reasons.proofs.carrying.better_of.Goals as goal

pub told_by-requires-clause-asked : goal.told_by-requires-clause-asked
told_by-requires-clause-asked c =
    let s = c.args.stood.now in
    let answer = c.in-Some.answer.now in
    let there : find (denies_back c.args.arrow) c.args.stood.now.answers.now ≡ Some c.in-Some.answer.now = search rules in
    (found_has (IsSoundAnswer s.table.now (statements_in s.list.now)) (denies_back c.args.arrow) s.answers.now answer c.requires.sound there).asked

pub told_by-requires-clause-proved : goal.told_by-requires-clause-proved
told_by-requires-clause-proved c =
    let s = c.args.stood.now in
    let answer = c.in-Some.answer.now in
    let there : find (denies_back c.args.arrow) c.args.stood.now.answers.now ≡ Some c.in-Some.answer.now = search rules in
    proved_back s.table.now (statements_in s.list.now) c.args.arrow answer (found_passes (denies_back c.args.arrow) s.answers.now answer there) (found_has (IsSoundAnswer s.table.now (statements_in s.list.now)) (denies_back c.args.arrow) s.answers.now answer c.requires.sound there)

pub returns-in-Some : goal.returns-in-Some
returns-in-Some c =
    let s = c.args.stood.now in
    let answer = c.in-Some.answer.now in
    let there : find (denies_back c.args.arrow) c.args.stood.now.answers.now ≡ Some c.in-Some.answer.now = search rules in
    IfOk-weaker c.told_by.result _ _
    (λ told are. better_by_one s.table.now s.list.now s.answers.now c.args.arrow answer told there are)
    c.told_by.ensures

pub returns-in-None : goal.returns-in-None
returns-in-None c =
    let s = c.args.stood.now in
    let none : find (denies_back c.args.arrow) c.args.stood.now.answers.now ≡ None = search rules in
    better_by_none s.table.now s.list.now s.answers.now c.args.arrow none
