use Rattle.std.proofs.Common.{◌∙◌, ℤ, ◌≤ℤ◌, ◌<ℤ◌, pos, get_or, subst, refl, arith, rules, FitsSigned}
use Rattle.std.specs.Int.{w128}
use Rattle.std.proofs.lemmas.Int.{ints, to_z-of_z}
use Rattle.ror_system.proofs.Others.{IsWalked-at, IsWalked-more, IsWalked-end, Lasts-holds, holds_more, value_there, as_many_places}
use Rattle.ror_system.proofs.Totals.{none_positive, not_below, is_below}
use Rattle.ror_system.proofs.steps.is_some_positive.Goals as goal

pub returns-then-entry-gt0 : goal.returns-then-entry-gt0
returns-then-entry-gt0 c =
    let xs = c.args.numbers.now in
    let i = c.loop-i.i in
    let places = c.loop-i.invariant.0 in
    let is = c.loop-i.invariant.1 in
    let n = as_many_places xs c.others.result.1.now places is in
    let Q : ℤ → Type 0 = λ x. x ≤ℤ pos 0 in
    let f : FitsSigned w128 c.entry.result = search rules in
    let e = value_there xs c.others.result.1.now places i _ is (omega arith) c.entry.ensures in
    let at = IsWalked-at xs places i (get_or places i 0) _ (Lasts-holds Q xs (omega (arith, ints))) (omega arith) refl c.loop-i.invariant.2 in
    let positive = subst (λ (x : ℤ). pos 0 <ℤ x) (to_z-of_z w128 _ f ∙ e) (is_below _ _ c.if-entry-gt0.true) in
    (λ there. (get_or places i 0, at.0, positive), λ some. search rules)

pub loop-i-preserved : goal.loop-i-preserved
loop-i-preserved c =
    let xs = c.args.numbers.now in
    let i = c.loop-i.i in
    let places = c.loop-i.invariant.0 in
    let is = c.loop-i.invariant.1 in
    let n = as_many_places xs c.others.result.1.now places is in
    let Q : ℤ → Type 0 = λ x. x ≤ℤ pos 0 in
    let f : FitsSigned w128 c.entry.result = search rules in
    let e = value_there xs c.others.result.1.now places i _ is (omega arith) c.entry.ensures in
    let at = IsWalked-at xs places i (get_or places i 0) _ (Lasts-holds Q xs (omega (arith, ints))) (omega arith) refl c.loop-i.invariant.2 in
    (places, is, IsWalked-more xs places i (get_or places i 0) _ _ (omega arith) refl c.loop-i.invariant.2 (holds_more Q xs (get_or places i 0) at.1 (subst Q (to_z-of_z w128 _ f ∙ e) (not_below _ _ c.if-entry-gt0.false))))

pub returns : goal.returns
returns c =
    let xs = c.args.numbers.now in
    let places = c.loop-i.invariant.0 in
    let n = as_many_places xs c.others.result.1.now places c.loop-i.invariant.1 in
    let Q : ℤ → Type 0 = λ x. x ≤ℤ pos 0 in
    let end = IsWalked-end xs places c.loop-i.i _ (Lasts-holds Q xs (omega (arith, ints))) (omega arith) c.loop-i.invariant.2 in
    let none = none_positive xs end.0 end.2 end.1 in
    (λ no. search rules, λ some. absurd (none some))
