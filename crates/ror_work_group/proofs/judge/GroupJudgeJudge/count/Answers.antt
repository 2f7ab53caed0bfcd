use Rattle.std.proofs.Common.{length, ap, subst, arith}
use Rattle.ror_relation.proofs.PairLemmas.{few_pairs}
use Rattle.ror_group.specs.Proof.{lists_of}
use Rattle.ror_group.proofs.Pairs.{lawful_lists}
use Rattle.ror_entries.specs.Kind.{IsKind}
use Rattle.ror_work_group.specs.Entries.{group_kind}
use Rattle.ror_work_group.specs.Steps.{GroupJudging}
use Rattle.ror_work_group.proofs.KindLemmas.{are_kind}
use Rattle.ror_work_group.proofs.judge.GroupJudgeJudge.count.Goals as goal

pub overflow_cast-result : goal.overflow_cast-result
overflow_cast-result c =
    let few = few_pairs (length c.self.inside.table.now.alternatives) c.self.invariant.table.alternatives_limit in
    let same = ap length c.self.invariant.pairs_are in
    let long = c.len.ensures in
    omega (arith, few, same, long)

pub returns-clause-lawful : goal.returns-clause-lawful
returns-clause-lawful c =
    let t = c.self.inside.table.now in
    let judges = c.self.inside.judges.items in
    subst (λ (j : GroupJudging). IsKind (group_kind j.table j.lists)) c.self.view_is (are_kind t (lists_of judges) c.self.invariant.table (lawful_lists t judges c.self.invariant.judges_are))
