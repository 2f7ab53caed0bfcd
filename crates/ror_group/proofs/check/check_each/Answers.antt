use Rattle.std.proofs.Common.{◌≡◌, ◌/◌, ◌<◌, List, Some, get_or, length, arith, sym, ap, ◌∙◌, subst}
use Rattle.std.specs.Prelude.{slice_get}
use Rattle.std.proofs.lemmas.List.{length-map}
use Rattle.ror_statement.specs.declared.statement.Statement.{Statement}
use Rattle.ror_statement.specs.declared.question.Question.{Question}
use Rattle.ror_text.specs.FirstFault.{IsRefusedBy}
use Rattle.ror_check.specs.Faults.{IsEarlierFault}
use Rattle.ror_check.specs.declared.fault.CheckFault.TheVariants as checks
use Rattle.ror_check.proofs.Checking.{slice_get-at}
use Rattle.ror_group.specs.declared.judge.Judge.{Judge}
use Rattle.ror_group.specs.Combining.{asked_on}
use Rattle.ror_group.specs.Proof.{IsWideOrProvedFor, lists_of}
use Rattle.ror_group.specs.Faults.{FailsUnlessWide}
use Rattle.ror_group.proofs.Pairs.{asked_at, asked_there, length-asked_on, proved_more, all_proved, answers_refused, same_lists, same_count, judges_set, list_there}
use Rattle.ror_group.proofs.check.check_each.Goals as goal

pub returns-in-Err-clause-lists : goal.returns-in-Err-clause-lists
returns-in-Err-clause-lists c =
    let i = c.loop-place.place / 2 in
    let within : i < length c.loop-place.judges = omega (arith, c.loop-place.invariant.count, c.loop-place-test.true) in
    same_lists c.loop-place.judges i c.index-judges-place.result c.check.new.self within c.check.ensures.statements ∙ c.loop-place.invariant.lists

pub returns-in-Err-clause-refused : goal.returns-in-Err-clause-refused
returns-in-Err-clause-refused c =
    let t = c.args.table.now in
    let a = c.args.a in
    let b = c.args.b in
    let n = c.loop-place.place in
    let x = c.index-answers-place.result in
    let list = (get_or c.loop-place.judges (n / 2) c.index-judges-place.result).statements in
    let lists = lists_of c.args.judges.now in
    let within : n / 2 < length c.loop-place.judges = omega (arith, c.loop-place.invariant.count, c.loop-place-test.true) in
    let there : slice_get lists (n / 2) ≡ Some list = ap (λ (l : List (List Statement)). slice_get l (n / 2)) (sym c.loop-place.invariant.lists) ∙ list_there c.loop-place.judges (n / 2) c.index-judges-place.result within in
    let refused = subst (λ (q : Question). IsRefusedBy (FailsUnlessWide t (record { list = list; question = q }) x) IsEarlierFault checks.Memory c.in-Err.fault) c.question_at-asked.ensures c.in-Err.ensures.refused in
    rw c.refused_at.ensures (answers_refused t (asked_on a b lists) c.args.answers.now n (asked_at a b n list) x c.in-Err.fault c.loop-place.invariant.before (asked_there a b lists n list there) (slice_get-at c.args.answers.now n x c.loop-place-test.true c.index-answers-place.is) refused)

pub loop-place-preserved : goal.loop-place-preserved
loop-place-preserved c =
    let t = c.args.table.now in
    let a = c.args.a in
    let b = c.args.b in
    let n = c.loop-place.place in
    let x = c.index-answers-place.result in
    let judges = c.loop-place.judges in
    let list = (get_or c.loop-place.judges (n / 2) c.index-judges-place.result).statements in
    let lists = lists_of c.args.judges.now in
    let within : n / 2 < length judges = omega (arith, c.loop-place.invariant.count, c.loop-place-test.true) in
    let there : slice_get lists (n / 2) ≡ Some list = ap (λ (l : List (List Statement)). slice_get l (n / 2)) (sym c.loop-place.invariant.lists) ∙ list_there judges (n / 2) c.index-judges-place.result within in
    let proved = subst (λ (q : Question). IsWideOrProvedFor t (record { list = list; question = q }) x) c.question_at-asked.ensures c.in_default.ensures.accepted in
    let same = same_lists judges (n / 2) c.index-judges-place.result c.check.new.self within c.check.ensures.statements in
    record {
      judges = judges_set t judges (n / 2) c.check.new.self c.loop-place.invariant.judges c.check.ensures.judge;
      lists = same ∙ c.loop-place.invariant.lists;
      count = same_count c.args.answers.now judges (n / 2) c.check.new.self same c.loop-place.invariant.count;
      before = proved_more t (asked_on a b lists) c.args.answers.now n (asked_at a b n list) x c.loop-place.invariant.before (asked_there a b lists n list there) (slice_get-at c.args.answers.now n x c.loop-place-test.true c.index-answers-place.is) proved;
    }

pub returns-clause-accepted : goal.returns-clause-accepted
returns-clause-accepted c =
    let a = c.args.a in
    let b = c.args.b in
    let lists = lists_of c.args.judges.now in
    let xs = c.args.answers.now in
    let end = c.loop-place-test.false in
    let count : length (asked_on a b lists) ≡ length xs = omega (arith, length-asked_on a b lists, length-map c.args.judges.now (λ (j : Judge). j.statements), c.requires.count) in
    all_proved c.args.table.now (asked_on a b lists) xs count (λ j q x within asked there. c.loop-place.invariant.before j q x (omega arith) asked there)
