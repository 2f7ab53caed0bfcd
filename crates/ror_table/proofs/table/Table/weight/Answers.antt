use Rattle.std.proofs.Common.{◌≡◌, ◌<◌, ℤ, pos, ◌≤ℤ◌, unsigned_abs, sym, subst, ◌∙◌, arith}
use Rattle.std.specs.Int.{w64}
use mir.Val.{SFits, to_z, of_z}
use Rattle.std.proofs.lemmas.Int.{ints, to_z-of_z}
use Rattle.ror_table.specs.declared.limits.TheConstants.{AMOUNT_LIMIT}
use Rattle.ror_table.specs.Table.{weight}
use Rattle.ror_table.specs.Index.{IsIndexed}
use Rattle.ror_table.proofs.WeightLemmas.{weight_small, weight_read, length-weights_read, weight-not_below_zero}
use Rattle.ror_table.proofs.table.Table.weight.Goals as goal

pub index-requires-2 : goal.index-requires-2
index-requires-2 c =
    let s = c.self.inside in
    let kept = subst (λ t. IsIndexed t s.index.levels.items s.weights.items s.index.offsets.items s.index.columns) c.self.view_is c.self.invariant in
    omega (arith, c.requires.within, length-weights_read c.args.self.now s.weights.items c.args.i c.index.result.now kept.right_weights c.requires.criterion c.requires.linear c.index.ensures, c.index.result.now.ok.0)

read : (c : goal.After-result-1) → to_z w64 (of_z w64 c.index-2.result.now) ≡ weight c.args.self.now c.args.i c.args.r
read c =
    let s = c.self.inside in
    let t = c.args.self.now in
    let x = c.index-2.result.now in
    let kept = subst (λ t. IsIndexed t s.index.levels.items s.weights.items s.index.offsets.items s.index.columns) c.self.view_is c.self.invariant in
    let is : x ≡ weight t c.args.i c.args.r = weight_read t s.weights.items c.args.i c.args.r c.index.result.now x kept.right_weights c.requires.criterion c.requires.linear c.requires.within c.index.ensures c.index-2.ensures in
    let small = weight_small t c.args.i c.args.r kept.table c.requires.criterion c.requires.linear in
    let fits : SFits w64 x = omega (arith, ints) in
    to_z-of_z w64 x fits ∙ is

pub returns-clause-value : goal.returns-clause-value
returns-clause-value c = read c

pub returns-clause-not_below : goal.returns-clause-not_below
returns-clause-not_below c = subst (λ (x : ℤ). pos 0 ≤ℤ x) (sym (read c)) (weight-not_below_zero c.args.self.now c.args.i c.args.r)

pub returns-clause-small : goal.returns-clause-small
returns-clause-small c =
    let s = c.self.inside in
    let kept = subst (λ t. IsIndexed t s.index.levels.items s.weights.items s.index.offsets.items s.index.columns) c.self.view_is c.self.invariant in
    subst (λ (x : ℤ). unsigned_abs x < AMOUNT_LIMIT) (sym (read c)) (weight_small c.args.self.now c.args.i c.args.r kept.table c.requires.criterion c.requires.linear)
