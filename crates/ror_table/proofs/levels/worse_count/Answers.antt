use Rattle.std.proofs.Common.{sym, rules}
use Rattle.std.proofs.lemmas.List.Sorted.{IsPartitionPoint-from_clause}
use Rattle.ror_table.specs.Amounts.{is_worse}
use Rattle.ror_table.proofs.LevelLemmas.{IsPartitionedBy-worse, length-filter_first}
use Rattle.ror_table.proofs.levels.worse_count.Goals as goal

pub returns : goal.returns
returns c =
    let first = IsPartitionedBy-worse c.args.direction c.args.levels.now c.args.performance c.requires.rises c.requires.amounts c.requires.amount in
    let point = IsPartitionPoint-from_clause (λ level. is_worse c.args.direction level c.args.performance) _ _ c.partition_point.ensures.partitioned first (λ a r q k. search rules) in
    sym (length-filter_first _ c.args.levels.now c.partition_point.result c.partition_point.ensures.bound point.0 point.1)
