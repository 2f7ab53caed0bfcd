use Rattle.std.proofs.Common.{◌-◌, ℤ, pos, ◌≤ℤ◌, sym, subst, ap, ◌∙◌, arith}
use Rattle.std.specs.Int.{w64}
use mir.Val.{SFits}
use Rattle.std.proofs.lemmas.Int.{ints, to_z-of_z}
use Rattle.ror_integers.specs.Vectors.{entry}
use Rattle.ror_table.specs.Blocks.{block}
use Rattle.ror_table.specs.Index.{IsIndexed}
use Rattle.ror_table.proofs.IndexLemmas.{offset_read}
use Rattle.ror_table.proofs.RankLemmas.{performances_amounts}
use Rattle.ror_table.proofs.BlockLemmas.{top_read, top_positive}
use Rattle.ror_table.proofs.table.Table.top.Goals as goal

pub block_entry-requires-clause-place : goal.block_entry-requires-clause-place
block_entry-requires-clause-place c =
    let s = c.self.inside in
    let t = c.args.self.now in
    let kept = subst (λ t. IsIndexed t s.index.levels.items s.weights.items s.index.offsets.items s.index.columns) c.self.view_is c.self.invariant in
    let i = c.criterion_of-i.result in
    let o = offset_read t s.index.offsets.items s.index.columns i c.index.result.now kept.right_offsets c.criterion_of-i.ensures.criterion c.index.ensures in
    (top_read t i c.args.c c.index.result.now c.criterion_of-i.ensures.criterion o c.criterion_of-i.ensures.begins c.criterion_of-i.ensures.ends).0

pub returns-clause-value : goal.returns-clause-value
returns-clause-value c =
    let s = c.self.inside in
    let t = c.args.self.now in
    let kept = subst (λ t. IsIndexed t s.index.levels.items s.weights.items s.index.offsets.items s.index.columns) c.self.view_is c.self.invariant in
    let i = c.criterion_of-i.result in
    let o = offset_read t s.index.offsets.items s.index.columns i c.index.result.now kept.right_offsets c.criterion_of-i.ensures.criterion c.index.ensures in
    let x = c.block_entry.result in
    let small = c.block_entry.ensures.small in
    let fits : SFits w64 x = omega (arith, ints) in
    to_z-of_z w64 x fits ∙ c.block_entry.ensures.value ∙ ap (λ r. entry (block t i r) (c.args.c - c.index.result.now)) c.steps.ensures
    ∙ sym (top_read t i c.args.c c.index.result.now c.criterion_of-i.ensures.criterion o c.criterion_of-i.ensures.begins c.criterion_of-i.ensures.ends).1

pub returns-clause-positive : goal.returns-clause-positive
returns-clause-positive c =
    let s = c.self.inside in
    let t = c.args.self.now in
    let kept = subst (λ t. IsIndexed t s.index.levels.items s.weights.items s.index.offsets.items s.index.columns) c.self.view_is c.self.invariant in
    let i = c.criterion_of-i.result in
    let x = c.block_entry.result in
    let small = c.block_entry.ensures.small in
    let fits : SFits w64 x = omega (arith, ints) in
    let e = to_z-of_z w64 x fits ∙ c.block_entry.ensures.value ∙ ap (λ r. entry (block t i r) (c.args.c - c.index.result.now)) c.steps.ensures in
    let o = offset_read t s.index.offsets.items s.index.columns i c.index.result.now kept.right_offsets c.criterion_of-i.ensures.criterion c.index.ensures in
    let place = (top_read t i c.args.c c.index.result.now c.criterion_of-i.ensures.criterion o c.criterion_of-i.ensures.begins c.criterion_of-i.ensures.ends).0 in
    subst (λ (y : ℤ). pos 1 ≤ℤ y) (sym e) (top_positive t i (c.args.c - c.index.result.now) (performances_amounts t i kept.table.evaluated c.criterion_of-i.ensures.criterion) place)
