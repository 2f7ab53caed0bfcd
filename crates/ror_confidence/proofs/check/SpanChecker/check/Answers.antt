use Rattle.std.proofs.Common.{◌≡◌, ◌≢◌, List, length, Err, refl, arith, ap, subst, sym, ◌∙◌}
use Rattle.std.specs.Prelude.{map, IfErr, IsTrue, OnOk}
use Rattle.std.specs.List.{AllZip}
use Rattle.ror_confidence.specs.declared.due.Due.{Due}
use Rattle.ror_confidence.specs.declared.fault.SpanCheckFault.TheVariants as faults
use Rattle.ror_confidence.specs.declared.level.LevelChecker.{LevelChecker}
use Rattle.ror_confidence.specs.declared.span.LevelAnswer.{LevelAnswer}
use Rattle.ror_confidence.specs.Proof.{IsProvedDue}
use Rattle.ror_confidence.specs.Faults.{place_of_answer, place_of_due}
use Rattle.ror_confidence.specs.Steps.{RefusesAnswers, lists_of}
use Rattle.ror_confidence.proofs.Checks.{accepted_true, each_accepted, each_refused, few_dues, IsDueOf, not_proved, other_shape_refused, same_after, shape_length}
use Rattle.ror_confidence.proofs.check.SpanChecker.check.Goals as goal

pub returns-then-not-has_shape-clause-refused : goal.returns-then-not-has_shape-clause-refused
returns-then-not-has_shape-clause-refused c =
    let levels = c.args.self.now.levels.items in
    let due : IsDueOf levels c.len-n.result c.args.pair.first c.args.pair.second c.args.x.now c.in_ok-dues.dues.items = record {
      count = omega (arith, c.len-n.ensures, c.args.self.now.levels.ok.0);
      range = sym c.is_in_range.ensures ∙ c.if-not-is_in_range.false;
      all = c.in_ok-dues.ensures;
    } in
    let other : map place_of_answer c.args.x.now.proof ≢ map place_of_due c.in_ok-dues.dues.items = λ same.
    let there : map place_of_answer c.as_slice-answers.result.now ≡ map place_of_due c.deref.result.now = ap (map place_of_answer) c.as_slice-answers.ensures ∙ same ∙ sym (ap (map place_of_due) c.deref.ensures.value) in
    absurd (let is = c.has_shape.ensures.1 there in cc) in
    other_shape_refused c.args.table.now levels c.len-n.result c.args.pair.first c.args.pair.second c.args.x.now c.in_ok-dues.dues.items due other

pub returns-then-not-has_shape-clause-not_proved : goal.returns-then-not-has_shape-clause-not_proved
returns-then-not-has_shape-clause-not_proved c =
    not_proved {A = Unit {0}} c.args.table.now (lists_of c.args.self.now.levels.items) c.args.pair.first c.args.pair.second c.args.x.now (Err faults.Shape) (returns-then-not-has_shape-clause-refused c)

pub check_each-requires-clause-few : goal.check_each-requires-clause-few
check_each-requires-clause-few c =
    let is = c.has_shape.ensures.0 (subst (λ (b : _). IsTrue b) (sym c.if-not-has_shape.false) refl) in
    let count = shape_length c.deref.result.now c.as_slice-answers.result.now is in
    let same = ap length (c.deref.ensures.value ∙ c.in_ok-dues.ensures) in
    let few = few_dues c.len-n.result c.args.pair.first c.args.pair.second c.args.x.now.contradictory c.args.x.now.necessary c.args.x.now.possible in
    omega (arith, count, same, few)

pub returns-clause-refused : goal.returns-clause-refused
returns-clause-refused c =
    let levels = c.args.self.now.levels.items in
    let t = c.args.table.now in
    let dues = c.in_ok-dues.dues.items in
    let due : IsDueOf levels c.len-n.result c.args.pair.first c.args.pair.second c.args.x.now dues = record {
      count = omega (arith, c.len-n.ensures, c.args.self.now.levels.ok.0);
      range = sym c.is_in_range.ensures ∙ c.if-not-is_in_range.false;
      all = c.in_ok-dues.ensures;
    } in
    let is = c.has_shape.ensures.0 (subst (λ (b : _). IsTrue b) (sym c.if-not-has_shape.false) refl) in
    let shape : map place_of_answer c.args.x.now.proof ≡ map place_of_due dues = sym (ap (map place_of_answer) c.as_slice-answers.ensures) ∙ is ∙ ap (map place_of_due) c.deref.ensures.value in
    let one = subst (λ (ls : List LevelChecker). IfErr c.check_each.result (RefusesAnswers t (lists_of ls) c.deref-2.result.now c.as_slice-answers.result.now)) c.as_mut_slice.ensures.value c.check_each.ensures.refused in
    let two = subst (λ (ds : List Due). IfErr c.check_each.result (RefusesAnswers t (lists_of levels) ds c.as_slice-answers.result.now)) c.deref-2.ensures.value one in
    let three = subst (λ (xs : List LevelAnswer). IfErr c.check_each.result (RefusesAnswers t (lists_of levels) dues xs)) c.as_slice-answers.ensures two in
    each_refused t levels c.len-n.result c.args.pair.first c.args.pair.second c.args.x.now dues c.check_each.result due shape three

pub returns-clause-not_proved : goal.returns-clause-not_proved
returns-clause-not_proved c =
    not_proved c.args.table.now (lists_of c.args.self.now.levels.items) c.args.pair.first c.args.pair.second c.args.x.now c.check_each.result (returns-clause-refused c)

pub returns-clause-accepted : goal.returns-clause-accepted
returns-clause-accepted c =
    let levels = c.args.self.now.levels.items in
    let t = c.args.table.now in
    let dues = c.in_ok-dues.dues.items in
    let due : IsDueOf levels c.len-n.result c.args.pair.first c.args.pair.second c.args.x.now dues = record {
      count = omega (arith, c.len-n.ensures, c.args.self.now.levels.ok.0);
      range = sym c.is_in_range.ensures ∙ c.if-not-is_in_range.false;
      all = c.in_ok-dues.ensures;
    } in
    let one = subst (λ (ls : List LevelChecker). OnOk c.check_each.result (AllZip (IsProvedDue t (lists_of ls)) c.deref-2.result.now c.as_slice-answers.result.now)) c.as_mut_slice.ensures.value c.check_each.ensures.accepted in
    let two = subst (λ (ds : List Due). OnOk c.check_each.result (AllZip (IsProvedDue t (lists_of levels)) ds c.as_slice-answers.result.now)) c.deref-2.ensures.value one in
    let three = subst (λ (xs : List LevelAnswer). OnOk c.check_each.result (AllZip (IsProvedDue t (lists_of levels)) dues xs)) c.as_slice-answers.ensures two in
    each_accepted t levels c.len-n.result c.args.pair.first c.args.pair.second c.args.x.now dues c.check_each.result due three

pub returns-clause-true_span : goal.returns-clause-true_span
returns-clause-true_span c =
    accepted_true c.args.table.now (lists_of c.args.self.now.levels.items) c.args.pair.first c.args.pair.second c.args.x.now c.check_each.result c.requires.nested c.requires.first c.requires.second (returns-clause-accepted c)

pub returns-clause-lists : goal.returns-clause-lists
returns-clause-lists c =
    same_after c.args.self.now.levels.items c.check_each.new.levels c.args.self.now.levels.len (omega (arith, c.args.self.now.levels.ok.0)) (c.check_each.ensures.lists ∙ ap lists_of c.as_mut_slice.ensures.value)
