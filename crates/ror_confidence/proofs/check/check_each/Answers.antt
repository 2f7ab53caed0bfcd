use Rattle.std.proofs.Common.{◌≤◌, ◌<◌, ◌-◌, arith, get_or, length, ◌∙◌}
use Rattle.std.specs.Prelude.{slice_index_or, slice_set}
use Rattle.ror_value.specs.Over.{IsAskedIn}
use Rattle.ror_check.proofs.Checking.{slice_get-at}
use Rattle.ror_confidence.specs.declared.due.Due.{Due}
use Rattle.ror_confidence.specs.Steps.{lists_of}
use Rattle.ror_confidence.proofs.Checks.{all_proved, answers_refused, checkers_set, get_there, list_of_checker, no_due, proved_due, proved_more, same_count, same_lists, shape_at, shape_length}
use Rattle.ror_confidence.proofs.Truth.{all_index}
use Rattle.ror_confidence.proofs.check.check_each.Goals as goal

pub check-requires-clause-question : goal.check-requires-clause-question
check-requires-clause-question c =
    let dues = c.args.dues.now in
    let xs = c.args.answers.now in
    let n = c.loop-place.place in
    let x = c.index-answers-place.result in
    let count = shape_length dues xs c.requires.shape in
    let test = c.loop-place-test.true in
    let inside : n < length dues = omega (arith, test, count) in
    (shape_at dues xs n (slice_index_or dues n no_due) x c.requires.shape (get_there dues n no_due inside) (slice_get-at xs n x test c.index-answers-place.is)).1

pub returns-in-Err-clause-refused : goal.returns-in-Err-clause-refused
returns-in-Err-clause-refused c =
    let t = c.args.table.now in
    let dues = c.args.dues.now in
    let xs = c.args.answers.now in
    let n = c.loop-place.place in
    let x = c.index-answers-place.result in
    let levels = c.loop-place.levels in
    let lists = lists_of c.args.levels.now in
    let due = slice_index_or dues n no_due in
    let test = c.loop-place-test.true in
    let inside : n < length dues = omega (arith, test, shape_length dues xs c.requires.shape) in
    let at : (1 ≤ due.level) × (due.level ≤ length c.args.levels.now) × IsAskedIn t due.question = all_index (λ (d : Due). (1 ≤ d.level) × (d.level ≤ length c.args.levels.now) × IsAskedIn t d.question) dues n no_due inside c.requires.within in
    let within : due.level - 1 < length levels = omega (arith, at.0, at.1, c.loop-place.invariant.count) in
    let same = list_of_checker levels lists due.level c.index-levels-due.result within c.loop-place.invariant.lists in
    rw c.refused_at.ensures (answers_refused t lists (get_or levels (due.level - 1) c.index-levels-due.result).statements dues xs n due x c.in-Err.fault same c.loop-place.invariant.before (get_there dues n no_due inside) (slice_get-at xs n x test c.index-answers-place.is) c.in-Err.ensures.refused)

pub returns-in-Err-clause-lists : goal.returns-in-Err-clause-lists
returns-in-Err-clause-lists c =
    let t = c.args.table.now in
    let dues = c.args.dues.now in
    let n = c.loop-place.place in
    let levels = c.loop-place.levels in
    let due = slice_index_or dues n no_due in
    let test = c.loop-place-test.true in
    let inside : n < length dues = omega (arith, test, shape_length dues c.args.answers.now c.requires.shape) in
    let at : (1 ≤ due.level) × (due.level ≤ length c.args.levels.now) × IsAskedIn t due.question = all_index (λ (d : Due). (1 ≤ d.level) × (d.level ≤ length c.args.levels.now) × IsAskedIn t d.question) dues n no_due inside c.requires.within in
    let within : due.level - 1 < length levels = omega (arith, at.0, at.1, c.loop-place.invariant.count) in
    same_lists levels (due.level - 1) c.index-levels-due.result c.check.new.self within c.check.ensures.statements ∙ c.loop-place.invariant.lists

pub loop-place-preserved : goal.loop-place-preserved
loop-place-preserved c =
    let t = c.args.table.now in
    let dues = c.args.dues.now in
    let xs = c.args.answers.now in
    let n = c.loop-place.place in
    let x = c.index-answers-place.result in
    let levels = c.loop-place.levels in
    let lists = lists_of c.args.levels.now in
    let due = slice_index_or dues n no_due in
    let test = c.loop-place-test.true in
    let inside : n < length dues = omega (arith, test, shape_length dues xs c.requires.shape) in
    let at : (1 ≤ due.level) × (due.level ≤ length c.args.levels.now) × IsAskedIn t due.question = all_index (λ (d : Due). (1 ≤ d.level) × (d.level ≤ length c.args.levels.now) × IsAskedIn t d.question) dues n no_due inside c.requires.within in
    let within : due.level - 1 < length levels = omega (arith, at.0, at.1, c.loop-place.invariant.count) in
    let list = (get_or levels (due.level - 1) c.index-levels-due.result).statements in
    let same = list_of_checker levels lists due.level c.index-levels-due.result within c.loop-place.invariant.lists in
    let due_there = get_there dues n no_due inside in
    let there = slice_get-at xs n x test c.index-answers-place.is in
    let alike = same_lists levels (due.level - 1) c.index-levels-due.result c.check.new.self within c.check.ensures.statements in
    record {
      checkers = checkers_set t levels (due.level - 1) c.check.new.self c.loop-place.invariant.checkers c.check.ensures.checker;
      lists = alike ∙ c.loop-place.invariant.lists;
      count = same_count levels (slice_set levels (due.level - 1) c.check.new.self) alike ∙ c.loop-place.invariant.count;
      before = proved_more t lists dues xs n due x c.loop-place.invariant.before due_there there (proved_due t lists list due x same (shape_at dues xs n due x c.requires.shape due_there there).0 c.in_default.ensures.accepted);
    }

pub returns-clause-accepted : goal.returns-clause-accepted
returns-clause-accepted c =
    let xs = c.args.answers.now in
    let end = c.loop-place-test.false in
    all_proved c.args.table.now (lists_of c.args.levels.now) c.args.dues.now xs (shape_length c.args.dues.now xs c.requires.shape) (λ j d y under due_there there. c.loop-place.invariant.before j d y (omega (arith, under, end)) due_there there)
