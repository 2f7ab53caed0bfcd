use Rattle.std.proofs.Common.{◌≡◌, length, filter, subst, sym, arith, ap, ◌∙◌}
use Rattle.ror_table.specs.declared.amount.Amount.{Amount}
use Rattle.ror_table.specs.Amounts.{IsAmount, is_worse}
use Rattle.ror_table.specs.Levels.{IsLevels}
use Rattle.ror_table.specs.Table.{DecisionTable, direction_at, performance_at, performances_on, rank}
use Rattle.ror_table.specs.Index.{IsIndexed}
use Rattle.ror_table.proofs.IndexLemmas.{levels_read, rank_read}
use Rattle.ror_table.proofs.RankLemmas.{performance_amount, rank-le-steps}
use Rattle.ror_table.proofs.table.Table.rank.Goals as goal

levels : (c : goal.After-deref) → IsLevels c.direction.result (performances_on c.args.self.now c.args.i) c.deref.result.now
levels c =
    let index = c.self.inside.index in
    let t = c.args.self.now in
    let i = c.args.i in
    let kept = subst (λ t. IsIndexed t index.levels.items c.self.inside.weights.items index.offsets.items index.columns) c.self.view_is c.self.invariant in
    let here = levels_read t index.levels.items i c.index.result.now c.direction.result kept.right_levels c.requires.criterion c.index.ensures (c.direction.ensures ∙ ap (λ (x : DecisionTable). direction_at x i) c.self.view_is) in
    subst (IsLevels c.direction.result (performances_on t i)) (sym c.deref.ensures.value) here

pub worse_count-requires-clause-rises : goal.worse_count-requires-clause-rises
worse_count-requires-clause-rises c = (levels c).rises

pub worse_count-requires-clause-amounts : goal.worse_count-requires-clause-amounts
worse_count-requires-clause-amounts c = (levels c).amounts

pub worse_count-requires-clause-amount : goal.worse_count-requires-clause-amount
worse_count-requires-clause-amount c =
    let index = c.self.inside.index in
    let t = c.args.self.now in
    let kept = subst (λ t. IsIndexed t index.levels.items c.self.inside.weights.items index.offsets.items index.columns) c.self.view_is c.self.invariant in
    let is : c.performance-performance.result ≡ performance_at t c.args.a c.args.i = c.performance-performance.ensures ∙ ap (λ (x : DecisionTable). performance_at x c.args.a c.args.i) c.self.view_is in
    subst IsAmount (sym is) (performance_amount t c.args.a c.args.i kept.table.evaluated c.requires.alternative c.requires.criterion)

number : (c : goal.After-worse_count) → c.worse_count.result ≡ rank c.args.self.now c.args.a c.args.i
number c =
    let index = c.self.inside.index in
    let i = c.args.i in
    let kept = subst (λ t. IsIndexed t index.levels.items c.self.inside.weights.items index.offsets.items index.columns) c.self.view_is c.self.invariant in
    let p : Amount = c.performance-performance.result in
    let counted : c.worse_count.result ≡ length (filter (λ level. is_worse c.direction.result level p) c.index.result.now.items) = rw c.deref.ensures.value at c.worse_count.ensures in
    rank_read c.args.self.now index.levels.items c.args.a i c.worse_count.result c.index.result.now c.direction.result p kept.right_levels c.requires.criterion c.index.ensures
    (c.direction.ensures ∙ ap (λ (t : DecisionTable). direction_at t i) c.self.view_is)
    (c.performance-performance.ensures ∙ ap (λ (t : DecisionTable). performance_at t c.args.a c.args.i) c.self.view_is)
    counted

pub returns-clause-number : goal.returns-clause-number
returns-clause-number c = number c

pub returns-clause-within : goal.returns-clause-within
returns-clause-within c = omega (arith, number c, rank-le-steps c.args.self.now c.args.a c.args.i c.requires.alternative)
