use Rattle.std.proofs.Common.{length, ap, arith}
use Rattle.ror_relation.proofs.PairLemmas.{few_pairs}
use Rattle.ror_work_levels.proofs.maker.SpanMakerMaker.count.Goals as goal

pub overflow_cast-result : goal.overflow_cast-result
overflow_cast-result c =
    let few = few_pairs (length c.self.inside.bench.table.alternatives) c.self.invariant.table.alternatives_limit in
    let same = ap length c.self.invariant.pairs_are in
    let long = c.len.ensures in
    omega (arith, few, same, long)
