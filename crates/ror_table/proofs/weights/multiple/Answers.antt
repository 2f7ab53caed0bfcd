use Rattle.std.proofs.Common.{◌≡◌, ◌<◌, ◌^◌, ℕ, ℤ, pos, ◌*ℤ◌, ◌/◌, ap, ap₂, sym, subst, ◌∙◌, rules, arith, unsigned_abs}
use Rattle.std.specs.Int.{w64, w128}
use Rattle.std.proofs.lemmas.Int.{ints, to_z-of_z}
use mir.Val.{SFits, to_z, of_z}
use Rattle.ror_table.specs.Table as spec
use Rattle.ror_table.proofs.WeightLemmas.{multiple_small}
use Rattle.ror_table.proofs.weights.multiple.Goals as goal

product : (c : goal.After-from-2) → to_z w128 (of_z w128 c.from.result) *ℤ to_z w128 (of_z w128 c.from-2.result) ≡ spec.multiple c.args.common c.args.amount
product c =
    let first : SFits w128 c.from.result = search rules in
    let second : SFits w128 c.from-2.result = search rules in
    let num : SFits w64 c.args.amount.num = search rules in
    let den : SFits w64 c.args.amount.den = search rules in
    ap₂ (λ (x y : ℤ). x *ℤ y)
    (to_z-of_z w128 c.from.result first ∙ c.from.ensures ∙ ap (λ (d : ℕ). pos (c.args.common / d)) (c.unsigned_abs.ensures.value ∙ ap unsigned_abs (to_z-of_z w64 c.args.amount.den den)))
    (to_z-of_z w128 c.from-2.result second ∙ c.from-2.ensures ∙ to_z-of_z w64 c.args.amount.num num)

pub overflow_mul-result : goal.overflow_mul-result
overflow_mul-result c =
    let small = multiple_small c.args.common c.args.amount c.requires.small c.requires.amount in
    let is = product c in
    let fits : SFits w128 (spec.multiple c.args.common c.args.amount) = omega (arith, ints) in
    subst (λ (x : ℤ). SFits w128 x) (sym is) fits

value : (c : goal.After-from-2) → to_z w128 (of_z w128 (to_z w128 (of_z w128 c.from.result) *ℤ to_z w128 (of_z w128 c.from-2.result))) ≡ spec.multiple c.args.common c.args.amount
value c = to_z-of_z w128 _ (overflow_mul-result c) ∙ product c

pub returns-clause-value : goal.returns-clause-value
returns-clause-value c = value c

pub returns-clause-small : goal.returns-clause-small
returns-clause-small c = subst (λ (x : ℤ). unsigned_abs x < 10 ^ 36) (sym (value c)) (multiple_small c.args.common c.args.amount c.requires.small c.requires.amount)
