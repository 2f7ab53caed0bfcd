use Rattle.std.proofs.Common.{rules, ◌≡◌, ◌≢◌, ◌*◌, length, arith, Err}
use Rattle.std.proofs.lemmas.List.{length-map}
use Rattle.std.proofs.lemmas.Result.{err_from_is_err_and}
use Rattle.ror_value.specs.Over.{IsAskedIn}
use Rattle.ror_statement.specs.declared.question.Question.TheVariants.{Necessary, Possible}
use Rattle.ror_group.specs.declared.fault.GroupFault.TheVariants as faults
use Rattle.ror_group.specs.declared.judge.Judge.{Judge}
use Rattle.ror_group.specs.Combining.{combined}
use Rattle.ror_group.specs.Proof.{lists_of}
use Rattle.ror_group.proofs.Pairs.{pair_refused, count_refused, words_refused, not_proved, proved_are_true, lawful_lists}
use Rattle.ror_group.proofs.check.check_pair_by.Goals as goal

pub returns-then-answers-judges-clause-not_proved : goal.returns-then-answers-judges-clause-not_proved
returns-then-answers-judges-clause-not_proved c =
    let t = c.args.table.now in
    let lists = lists_of c.args.judges.now in
    let xs = c.args.answers.now in
    let count : length xs ≢ 2 * length lists = λ (e : length xs ≡ 2 * length lists). omega (arith, c.if-answers-judges.true, length-map c.args.judges.now (λ (j : Judge). j.statements)) in
    not_proved {A = Unit {0}} t lists c.args.pair.first c.args.pair.second xs c.args.q.now (Err faults.Count) (count_refused t lists c.args.pair.first c.args.pair.second xs c.args.q.now count)

pub returns-in_err-check_each-clause-refused : goal.returns-in_err-check_each-clause-refused
returns-in_err-check_each-clause-refused c =
    let lists = lists_of c.args.judges.now in
    let xs = c.args.answers.now in
    let count : length xs ≡ 2 * length lists = omega (arith, c.if-answers-judges.false, length-map c.args.judges.now (λ (j : Judge). j.statements)) in
    let p = err_from_is_err_and c.from_residual.result c.from_residual.ensures.1 in
    rw (p.1, p.2) (pair_refused c.args.table.now lists c.args.pair.first c.args.pair.second xs c.args.q.now c.in_err-check_each.field-0.0 count c.in_err-check_each.ensures.refused)

pub returns-in_err-check_each-clause-not_proved : goal.returns-in_err-check_each-clause-not_proved
returns-in_err-check_each-clause-not_proved c =
    not_proved c.args.table.now (lists_of c.args.judges.now) c.args.pair.first c.args.pair.second c.args.answers.now c.args.q.now c.from_residual.result (returns-in_err-check_each-clause-refused c)

pub returns-then-not-is_same-clause-refused : goal.returns-then-not-is_same-clause-refused
returns-then-not-is_same-clause-refused c =
    let wrong : c.args.q.now ≢ combined c.args.answers.now = search rules in
    words_refused c.args.table.now (lists_of c.args.judges.now) c.args.pair.first c.args.pair.second c.args.answers.now c.args.q.now c.in_ok-check_each.ensures.accepted wrong

pub returns-clause-accepted : goal.returns-clause-accepted
returns-clause-accepted c =
    let same : c.args.q.now ≡ combined c.args.answers.now = search rules in
    record { answers = c.in_ok-check_each.ensures.accepted; words = same }

pub returns-clause-true_answers : goal.returns-clause-true_answers
returns-clause-true_answers c =
    let t = c.args.table.now in
    let necessary : IsAskedIn t (Necessary c.args.pair.first c.args.pair.second) = search rules in
    let possible : IsAskedIn t (Possible c.args.pair.first c.args.pair.second) = search rules in
    proved_are_true t (lists_of c.args.judges.now) c.args.pair.first c.args.pair.second c.args.answers.now c.args.q.now (lawful_lists t c.args.judges.now c.requires.judges) necessary possible (returns-clause-accepted c)
