use Rattle.std.proofs.Common.{length, ap, subst, arith}
use Rattle.ror_confidence.specs.Steps.{lists_of}
use Rattle.ror_relation.proofs.PairLemmas.{few_pairs}
use Rattle.ror_entries.specs.Kind.{IsKind}
use Rattle.ror_work_levels.specs.Entries.{span_kind}
use Rattle.ror_work_levels.specs.Steps.{SpanJudging}
use Rattle.ror_work_levels.proofs.KindLemmas.{are_kind}
use Rattle.ror_work_levels.proofs.judge.SpanJudgeJudge.count.Goals as goal

pub overflow_cast-result : goal.overflow_cast-result
overflow_cast-result c =
    let few = few_pairs (length c.self.inside.bench.table.alternatives) c.self.invariant.table.alternatives_limit in
    let same = ap length c.self.invariant.pairs_are in
    let long = c.len.ensures in
    omega (arith, few, same, long)

pub returns-clause-lawful : goal.returns-clause-lawful
returns-clause-lawful c =
    let t = c.self.inside.bench.table in
    let levels = c.self.inside.checker.levels.items in
    subst (λ (j : SpanJudging). IsKind (span_kind j.table j.lists)) c.self.view_is (are_kind t (lists_of levels) c.self.invariant.table c.self.invariant.checker_is.nested)
