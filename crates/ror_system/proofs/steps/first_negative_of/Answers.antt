use Rattle.std.proofs.Common.{◌∙◌, ℕ, ℤ, ◌<◌, ◌≤ℤ◌, ◌<ℤ◌, pos, length, get_or, refl, subst, arith, rules, FitsSigned}
use Rattle.std.specs.Int.{w128}
use Rattle.std.proofs.lemmas.Int.{ints, to_z-of_z}
use Rattle.ror_integers.proofs.Signs.{NoneNegative-from_entries}
use Rattle.ror_system.proofs.Others.{IsWalked-at, IsWalked-more, IsWalked-end, Lasts-holds, holds_more, value_there}
use Rattle.ror_system.proofs.Totals.{not_below, is_below}
use Rattle.ror_system.proofs.steps.first_negative_of.Goals as goal

pub returns-then-entry-lt0 : goal.returns-then-entry-lt0
returns-then-entry-lt0 c =
    let xs = c.args.numbers.now in
    let places = c.others.result.0.now in
    let i = c.loop-i.i in
    let Q : ℤ → Type 0 = λ x. pos 0 ≤ℤ x in
    let f : FitsSigned w128 c.entry.result = search rules in
    let e = value_there xs c.others.result.1.now places i _ c.others.ensures.values (omega arith) c.entry.ensures in
    let at = IsWalked-at xs places i (get_or places i 0) _ (Lasts-holds Q xs (omega (arith, ints))) (omega arith) refl c.loop-i.invariant in
    record { within = at.0; negative = subst (λ (x : ℤ). x <ℤ pos 0) (to_z-of_z w128 _ f ∙ e) (is_below _ _ c.if-entry-lt0.true); none_before = at.1 }

pub loop-i-preserved : goal.loop-i-preserved
loop-i-preserved c =
    let xs = c.args.numbers.now in
    let places = c.others.result.0.now in
    let i = c.loop-i.i in
    let Q : ℤ → Type 0 = λ x. pos 0 ≤ℤ x in
    let f : FitsSigned w128 c.entry.result = search rules in
    let e_there = value_there xs c.others.result.1.now places i _ c.others.ensures.values (omega arith) c.entry.ensures in
    let at = IsWalked-at xs places i (get_or places i 0) _ (Lasts-holds Q xs (omega (arith, ints))) (omega arith) refl c.loop-i.invariant in
    IsWalked-more xs places i (get_or places i 0) _ _ (omega arith) refl c.loop-i.invariant (holds_more Q xs (get_or places i 0) at.1 (subst Q (to_z-of_z w128 _ f ∙ e_there) (not_below _ _ c.if-entry-lt0.false)))

pub returns : goal.returns
returns c =
    let xs = c.args.numbers.now in
    let Q : ℤ → Type 0 = λ x. pos 0 ≤ℤ x in
    let end = IsWalked-end xs c.others.result.0.now c.loop-i.i _ (Lasts-holds Q xs (omega (arith, ints))) (omega arith) c.loop-i.invariant in
    let long = end.1 in
    NoneNegative-from_entries xs (λ (j : ℕ) (l : j < length xs). end.2 j (omega arith))
