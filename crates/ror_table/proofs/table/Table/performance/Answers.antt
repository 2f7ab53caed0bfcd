use Rattle.std.proofs.Common.{◌≡◌, subst, sym, ap, ◌∙◌}
use Rattle.ror_table.specs.Amounts.{IsAmount}
use Rattle.ror_table.specs.Index.{IsIndexed}
use Rattle.ror_table.specs.Table.{DecisionTable, performance_at}
use Rattle.ror_table.proofs.RankLemmas.{performance_amount}
use Rattle.ror_table.proofs.table.Table.performance.Goals as goal

pub returns-clause-amount : goal.returns-clause-amount
returns-clause-amount c =
    let index = c.self.inside.index in
    let kept = subst (λ t. IsIndexed t index.levels.items c.self.inside.weights.items index.offsets.items index.columns) c.self.view_is c.self.invariant in
    let is : c.performance.result ≡ performance_at c.args.self.now c.args.a c.args.i = c.performance.ensures ∙ ap (λ (t : DecisionTable). performance_at t c.args.a c.args.i) c.self.view_is in
    subst IsAmount (sym is) (performance_amount c.args.self.now c.args.a c.args.i kept.table.evaluated c.requires.alternative c.requires.criterion)
