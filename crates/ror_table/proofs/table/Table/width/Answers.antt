use Rattle.std.proofs.Common.{◌≡◌, length, subst, ap, ◌∙◌, arith}
use Rattle.ror_table.specs.Index.{IsIndexed}
use Rattle.ror_table.specs.Table.{DecisionTable, is_linear, width}
use Rattle.ror_table.proofs.IndexLemmas.{width_read}
use Rattle.ror_table.proofs.RankLemmas.{width-le-steps}
use Rattle.ror_table.proofs.table.Table.width.Goals as goal

number : (c : goal.After-width_of) → c.width_of.result ≡ width c.args.self.now c.args.i
number c =
    let index = c.self.inside.index in
    let t = c.args.self.now in
    let i = c.args.i in
    let kept = subst (λ t. IsIndexed t index.levels.items c.self.inside.weights.items index.offsets.items index.columns) c.self.view_is c.self.invariant in
    let v = c.index.result.now in
    let count : c.len.result ≡ length v.items = omega (arith, c.len.ensures, v.ok.0) in
    width_read t index.levels.items i c.len.result c.width_of.result v c.is_linear.result kept.right_levels c.requires c.index.ensures count (c.is_linear.ensures ∙ ap (λ (x : DecisionTable). is_linear x i) c.self.view_is) c.width_of.ensures

pub returns-clause-number : goal.returns-clause-number
returns-clause-number c = number c

pub returns-clause-within : goal.returns-clause-within
returns-clause-within c = omega (arith, number c, width-le-steps c.args.self.now c.args.i)
