use Rattle.std.proofs.Common.{subst, arith}
use Rattle.ror_table.specs.Index.{IsIndexed}
use Rattle.ror_table.proofs.IndexLemmas.{steps_read}
use Rattle.ror_table.proofs.table.Table.steps.Goals as goal

pub returns : goal.returns
returns c =
    let index = c.self.inside.index in
    let kept = subst (λ t. IsIndexed t index.levels.items c.self.inside.weights.items index.offsets.items index.columns) c.self.view_is c.self.invariant in
    omega (arith, steps_read c.args.self.now index.levels.items c.args.i c.index.result.now kept.right_levels c.requires c.index.ensures, c.saturating_sub.ensures, c.len.ensures, c.index.result.now.ok.0)
