use Rattle.std.proofs.Common.{rules, ◌≡◌, ◌∙◌, true, subst, ap, get_or, arith}
use Rattle.std.specs.Prelude.{nat_eq, ◌++◌, slice_get, Some}
use Rattle.std.specs.Set.{is_member}
use Rattle.ror_reason.specs.SearchSteps.{HasAnswer}
use Rattle.ror_reason.proofs.Parts.{get_or-there, member_there}
use Rattle.ror_reason.proofs.SearchLemmas.{others_more, smaller_part, smaller_length, other_answer}
use Rattle.ror_reason.proofs.search.try_each.Goals as goal

pub returns-then-has_answer-clause-ok : goal.returns-then-has_answer-clause-ok
returns-then-has_answer-clause-ok c =
    let s = c.args.sought.now in
    let part = c.args.part.now in
    let smaller = c.in_ok-smaller.smaller in
    let d = c.in_ok-smaller.ensures.ok in
    let ns = c.as_slice-number-items.result.now in
    let i = c.loop-number.number-index in
    let n = get_or ns i 0 in
    let there : is_member nat_eq part.numbers.items n ≡ true = member_there part.numbers.items i n
    (subst (λ ms. slice_get ms i ≡ Some n) c.as_slice-number-items.ensures.value (get_or-there ns i 0 c.loop-number-test.true)) in
    let has : HasAnswer s.conclusion smaller.answers.items = search rules in
    (smaller_part s c.requires.sought part smaller n d c.requires.part has, smaller_length s c.requires.sought part smaller n d there)

pub loop-number-preserved : goal.loop-number-preserved
loop-number-preserved c =
    let s = c.args.sought.now in
    let part = c.args.part.now in
    let smaller = c.in_ok-smaller.smaller in
    let d = c.in_ok-smaller.ensures.ok in
    let ns = c.as_slice-number-items.result.now in
    let i = c.loop-number.number-index in
    let n = get_or ns i 0 in
    let number = subst (λ ms. slice_get ms i ≡ Some n) c.as_slice-number-items.ensures.value (get_or-there ns i 0 c.loop-number-test.true) in
    let not : HasAnswer s.conclusion smaller.answers.items → ⊥ = search rules in
    let own = part.numbers.items in
    let xs = c.loop-number.others.items in
    let before = c.loop-number.invariant.1 in
    let step = c.part_without.ensures.counted in (
      others_more s c.requires.sought own xs i n d.answer c.push_answer.new.others.items c.loop-number.invariant.0 number
          (other_answer s c.requires.sought part smaller n d not) (c.in_ok-push_answer.ensures ∙ ap (λ ys. xs ++ ys) d.is_alone),
      omega (arith, before, step),
    )
