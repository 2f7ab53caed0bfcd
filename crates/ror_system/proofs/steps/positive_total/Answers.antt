use Rattle.std.proofs.Common.{◌∙◌, ◌<ℤ◌, pos, get_or, refl, arith, rules, to_z, FitsSigned}
use Rattle.std.specs.Int.{w128}
use Rattle.std.proofs.lemmas.Int.{to_z-of_z}
use Rattle.ror_integers.specs.Vectors.{total}
use Rattle.ror_system.specs.System.{IsNarrow}
use Rattle.ror_system.proofs.Others.{IsWalked-at, IsWalked-more, IsWalked-end, Lasts-total, value_there, as_many_places}
use Rattle.ror_system.proofs.Totals.{IsLeftOfTotal-more, IsLeftOfTotal-over, IsLeftOfTotal-end, total_decided}
use Rattle.ror_system.proofs.steps.positive_total.Goals as goal

pub returns-in_err-sum : goal.returns-in_err-sum
returns-in_err-sum c =
    let xs = c.args.numbers.now in
    let i = c.loop-i.i in
    let places = c.loop-i.invariant.0 in
    let is = c.loop-i.invariant.1 in
    let n = as_many_places xs c.others.result.1.now places is in
    let g : FitsSigned w128 c.entry.result = search rules in
    let e = value_there xs c.others.result.1.now places i _ is (omega arith) (to_z-of_z w128 _ g ∙ c.entry.ensures) in
    let at = IsWalked-at xs places i (get_or places i 0) _ (Lasts-total _ xs c.requires) (omega arith) refl c.loop-i.invariant.2 in
    let over = IsLeftOfTotal-over _ _ xs (get_or places i 0) at.1 c.requires at.0 e c.in_err-sum.ensures in
    let none : ((pos 0 <ℤ total xs) × IsNarrow (total xs)) → ⊥ = λ k. over k.1 in
    search rules

pub loop-i-preserved : goal.loop-i-preserved
loop-i-preserved c =
    let xs = c.args.numbers.now in
    let i = c.loop-i.i in
    let places = c.loop-i.invariant.0 in
    let is = c.loop-i.invariant.1 in
    let n = as_many_places xs c.others.result.1.now places is in
    let g : FitsSigned w128 c.entry.result = search rules in
    let m : FitsSigned w128 c.in_ok-sum.sum = search rules in
    let e = value_there xs c.others.result.1.now places i _ is (omega arith) (to_z-of_z w128 _ g ∙ c.entry.ensures) in
    let at = IsWalked-at xs places i (get_or places i 0) _ (Lasts-total _ xs c.requires) (omega arith) refl c.loop-i.invariant.2 in
    (places, is, IsWalked-more xs places i (get_or places i 0) _ _ (omega arith) refl c.loop-i.invariant.2 (IsLeftOfTotal-more _ _ _ xs (get_or places i 0) at.1 c.requires at.0 e (to_z-of_z w128 _ m ∙ c.in_ok-sum.ensures.1)))

pub returns-then-sum-gt0 : goal.returns-then-sum-gt0
returns-then-sum-gt0 c =
    let xs = c.args.numbers.now in
    let places = c.loop-i.invariant.0 in
    let n = as_many_places xs c.others.result.1.now places c.loop-i.invariant.1 in
    let end = IsWalked-end xs places c.loop-i.i _ (Lasts-total _ xs c.requires) (omega arith) c.loop-i.invariant.2 in
    let e = IsLeftOfTotal-end _ xs end.0 end.2 end.1 in
    let f : FitsSigned w128 (to_z w128 c.loop-i.sum-bits) = search rules in
    let d = total_decided _ (total xs) end.2.not_negative f e in
    let h = d.0 c.if-sum-gt0.true in
    (e, h.0, h.1)

pub returns-else-sum-gt0 : goal.returns-else-sum-gt0
returns-else-sum-gt0 c =
    let xs = c.args.numbers.now in
    let places = c.loop-i.invariant.0 in
    let n = as_many_places xs c.others.result.1.now places c.loop-i.invariant.1 in
    let end = IsWalked-end xs places c.loop-i.i _ (Lasts-total _ xs c.requires) (omega arith) c.loop-i.invariant.2 in
    let e = IsLeftOfTotal-end _ xs end.0 end.2 end.1 in
    let f : FitsSigned w128 (to_z w128 c.loop-i.sum-bits) = search rules in
    let d = total_decided _ (total xs) end.2.not_negative f e in
    λ both. absurd (search rules)
