use Rattle.std.proofs.Common.{subst, arith}
use Rattle.ror_table.specs.Index.{IsIndexed}
use Rattle.ror_table.proofs.IndexLemmas.{offset_read}
use Rattle.ror_table.proofs.RankLemmas.{column-lt-columns}
use Rattle.ror_table.proofs.table.Table.column.Goals as goal

pub overflow_add-result : goal.overflow_add-result
overflow_add-result c =
    let index = c.self.inside.index in
    let kept = subst (λ t. IsIndexed t index.levels.items c.self.inside.weights.items index.offsets.items index.columns) c.self.view_is c.self.invariant in
    let first = offset_read c.args.self.now index.offsets.items index.columns c.args.i c.index.result.now kept.right_offsets c.requires.criterion c.index.ensures in
    omega (arith, first, column-lt-columns c.args.self.now c.args.i c.args.k c.requires.criterion c.requires.positive c.requires.within, kept.table.columns_limit)

pub returns-clause-within : goal.returns-clause-within
returns-clause-within c =
    let index = c.self.inside.index in
    let kept = subst (λ t. IsIndexed t index.levels.items c.self.inside.weights.items index.offsets.items index.columns) c.self.view_is c.self.invariant in
    let first = offset_read c.args.self.now index.offsets.items index.columns c.args.i c.index.result.now kept.right_offsets c.requires.criterion c.index.ensures in
    omega (arith, first, column-lt-columns c.args.self.now c.args.i c.args.k c.requires.criterion c.requires.positive c.requires.within)
