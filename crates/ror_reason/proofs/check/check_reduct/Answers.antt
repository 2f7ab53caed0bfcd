use Rattle.std.proofs.Common.{rules, ◌≡◌, length, subst, arith}
use Rattle.std.proofs.lemmas.Result.{err_from_is_err_and}
use Rattle.ror_check.specs.Repair.{AreNumbersIn}
use Rattle.ror_reason.specs.Reducts.{RestsOnPart, Concludes}
use Rattle.ror_reason.specs.CheckSteps.{RefusesPart}
use Rattle.ror_reason.proofs.Parts.{numbers_few}
use Rattle.ror_reason.proofs.FaultLemmas.{part_refused, reduct_not_proved, others_answer}
use Rattle.ror_reason.proofs.check.check_reduct.Goals as goal

pub returns-in_err-check_part-clause-refused : goal.returns-in_err-check_part-clause-refused
returns-in_err-check_part-clause-refused c =
    let list = c.args.list.now in
    let x = c.args.x.now in
    let own = c.as_slice-numbers.ensures in
    let rests : RestsOnPart c.args.question.now c.args.conclusion = search rules in
    let numbers : AreNumbersIn list x.numbers = search rules in
    let as_many : length x.others ≡ length x.numbers = search rules in
    let same : Concludes c.args.conclusion x.answer.verdict = search rules in
    let exit = err_from_is_err_and c.from_residual.result c.from_residual.ensures.1 in
    rw (exit.1, exit.2) (part_refused c.args.table.now list c.args.question.now c.args.conclusion x rests numbers as_many same c.in_err-check_part.field-0.0
    (subst (λ ns. RefusesPart c.args.table.now list c.args.question.now ns x.answer c.in_err-check_part.field-0.0) own c.in_err-check_part.ensures.err))

pub returns-in_err-check_part-clause-not_proved : goal.returns-in_err-check_part-clause-not_proved
returns-in_err-check_part-clause-not_proved c = reduct_not_proved c.args.table.now c.args.list.now c.args.question.now c.args.conclusion c.args.x.now c.from_residual.result (returns-in_err-check_part-clause-refused c)

pub check_others-requires-clause-few : goal.check_others-requires-clause-few
check_others-requires-clause-few c =
    let ns = c.as_slice-numbers.result.now in
    let numbers : AreNumbersIn c.args.list.now ns = search rules in
    let few = numbers_few c.args.list.now ns c.requires.rising numbers in
    let most = c.requires.lawful.few in
    omega (arith, few, most)

pub returns-clause-accepted : goal.returns-clause-accepted
returns-clause-accepted c =
    let list = c.args.list.now in
    let x = c.args.x.now in
    let ns = c.as_slice-numbers.result.now in
    let xs = c.as_slice-others.result.now in
    let rests : RestsOnPart c.args.question.now c.args.conclusion = search rules in
    let numbers : AreNumbersIn list ns = search rules in
    let as_many : length xs ≡ length ns = search rules in
    let same : Concludes c.args.conclusion x.answer.verdict = search rules in
    (others_answer c.args.table.now list c.args.question.now c.args.conclusion x c.check_others.result ns xs c.as_slice-numbers.ensures c.as_slice-others.ensures c.requires.lawful c.requires.asked rests numbers as_many same c.in_ok-check_part.ensures.ok c.check_others.ensures.ok c.check_others.ensures.err).accepted

pub returns-clause-true_reduct : goal.returns-clause-true_reduct
returns-clause-true_reduct c =
    let list = c.args.list.now in
    let x = c.args.x.now in
    let ns = c.as_slice-numbers.result.now in
    let xs = c.as_slice-others.result.now in
    let rests : RestsOnPart c.args.question.now c.args.conclusion = search rules in
    let numbers : AreNumbersIn list ns = search rules in
    let as_many : length xs ≡ length ns = search rules in
    let same : Concludes c.args.conclusion x.answer.verdict = search rules in
    (others_answer c.args.table.now list c.args.question.now c.args.conclusion x c.check_others.result ns xs c.as_slice-numbers.ensures c.as_slice-others.ensures c.requires.lawful c.requires.asked rests numbers as_many same c.in_ok-check_part.ensures.ok c.check_others.ensures.ok c.check_others.ensures.err).true_reduct

pub returns-clause-not_proved : goal.returns-clause-not_proved
returns-clause-not_proved c =
    let list = c.args.list.now in
    let x = c.args.x.now in
    let ns = c.as_slice-numbers.result.now in
    let xs = c.as_slice-others.result.now in
    let rests : RestsOnPart c.args.question.now c.args.conclusion = search rules in
    let numbers : AreNumbersIn list ns = search rules in
    let as_many : length xs ≡ length ns = search rules in
    let same : Concludes c.args.conclusion x.answer.verdict = search rules in
    (others_answer c.args.table.now list c.args.question.now c.args.conclusion x c.check_others.result ns xs c.as_slice-numbers.ensures c.as_slice-others.ensures c.requires.lawful c.requires.asked rests numbers as_many same c.in_ok-check_part.ensures.ok c.check_others.ensures.ok c.check_others.ensures.err).not_proved

pub returns-clause-refused : goal.returns-clause-refused
returns-clause-refused c =
    let list = c.args.list.now in
    let x = c.args.x.now in
    let ns = c.as_slice-numbers.result.now in
    let xs = c.as_slice-others.result.now in
    let rests : RestsOnPart c.args.question.now c.args.conclusion = search rules in
    let numbers : AreNumbersIn list ns = search rules in
    let as_many : length xs ≡ length ns = search rules in
    let same : Concludes c.args.conclusion x.answer.verdict = search rules in
    (others_answer c.args.table.now list c.args.question.now c.args.conclusion x c.check_others.result ns xs c.as_slice-numbers.ensures c.as_slice-others.ensures c.requires.lawful c.requires.asked rests numbers as_many same c.in_ok-check_part.ensures.ok c.check_others.ensures.ok c.check_others.ensures.err).refused
