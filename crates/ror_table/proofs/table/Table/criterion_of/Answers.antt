use Rattle.std.proofs.Common.{leb, ◌≤◌, ◌<◌, ◌-◌, ◌+◌, ℕ, List, subst, sym, rules}
use Rattle.std.proofs.lemmas.List.Sorted.{IsPartitionPoint-from_clause, IsPartitionedBy-leb}
use Rattle.ror_table.specs.Table.{offset}
use Rattle.ror_table.specs.Index.{IsIndexed, AreOffsets}
use Rattle.ror_table.proofs.BlockLemmas.{offsets_rise, criterion_found}
use Rattle.ror_table.proofs.table.Table.criterion_of.Goals as goal

found : (c : goal.After-partition_point) → (1 ≤ c.partition_point.result) × (offset c.args.self.now (c.partition_point.result - 1) ≤ c.args.c) × (c.args.c < offset c.args.self.now (c.partition_point.result - 1 + 1))
found c =
    let s = c.self.inside in
    let t = c.args.self.now in
    let os = c.deref.result.now in
    let kept = subst (λ t. IsIndexed t s.index.levels.items s.weights.items s.index.offsets.items s.index.columns) c.self.view_is c.self.invariant in
    let are : AreOffsets t os s.index.columns = subst (λ (xs : List ℕ). AreOffsets t xs s.index.columns) (sym c.deref.ensures.value) kept.right_offsets in
    let parted = IsPartitionedBy-leb (λ x. x) os c.args.c (offsets_rise t os s.index.columns are) in
    let point = IsPartitionPoint-from_clause (λ x. leb x c.args.c) _ _ c.partition_point.ensures.partitioned parted (λ a r q k. search rules) in
    criterion_found t os s.index.columns c.args.c c.partition_point.result kept.table are c.requires c.partition_point.ensures.bound point.0 point.1

pub overflow_sub-result : goal.overflow_sub-result
overflow_sub-result c = (found c).0

pub returns-clause-begins : goal.returns-clause-begins
returns-clause-begins c = (found c).1

pub returns-clause-ends : goal.returns-clause-ends
returns-clause-ends c = (found c).2
