use Rattle.std.proofs.Common.{◌+◌, ◌∙◌, FitsSigned, ap, sym, subst, arith, rules}
use Rattle.std.specs.Int.{w128}
use Rattle.std.proofs.lemmas.Int.{to_z-of_z}
use Rattle.ror_value.specs.Value.{marginal}
use Rattle.ror_value.proofs.Walks.{IsUpTo-fits, IsLeftOfValue, IsLeftOfValue-more, left-up_to}
use Rattle.ror_value.proofs.value_function.ValueFunction.value.Goals as goal

pub overflow_add-sum : goal.overflow_add-sum
overflow_add-sum c =
    let t = c.args.table.now in
    let f = c.args.self.now in
    let i = c.loop-i.i in
    let g : FitsSigned w128 c.marginal-sum.result = search rules in
    let here = to_z-of_z w128 _ g ∙ c.marginal-sum.ensures.number ∙ ap (marginal t f.steps i) c.rank.ensures.number in
    let more = IsLeftOfValue-more t f.steps c.args.a _ _ i c.requires.function.function.none_negative c.loop-i.invariant (omega arith) here in
    IsUpTo-fits f.total _ c.marginal-sum.ensures.narrow (left-up_to t f c.args.a _ (i + 1) c.requires.function more)

pub loop-i-preserved : goal.loop-i-preserved
loop-i-preserved c =
    let t = c.args.table.now in
    let f = c.args.self.now in
    let i = c.loop-i.i in
    let g : FitsSigned w128 c.marginal-sum.result = search rules in
    let here = to_z-of_z w128 _ g ∙ c.marginal-sum.ensures.number ∙ ap (marginal t f.steps i) c.rank.ensures.number in
    let more = IsLeftOfValue-more t f.steps c.args.a _ _ i c.requires.function.function.none_negative c.loop-i.invariant (omega arith) here in
    let fits = IsUpTo-fits f.total _ c.marginal-sum.ensures.narrow (left-up_to t f c.args.a _ (i + 1) c.requires.function more) in
    subst (λ z. IsLeftOfValue t f.steps c.args.a z (i + 1)) (sym (to_z-of_z w128 _ fits)) more

pub returns-clause-bounds : goal.returns-clause-bounds
returns-clause-bounds c =
    let b = left-up_to c.args.table.now c.args.self.now c.args.a _ c.loop-i.i c.requires.function c.loop-i.invariant in
    (b.not_below_zero, b.not_above)
