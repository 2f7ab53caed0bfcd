use Rattle.std.proofs.Common.{subst}
use Rattle.ror_group.specs.Proof.{lists_of}
use Rattle.ror_entries.specs.Kind.{IsSameKind}
use Rattle.ror_entries.proofs.SameLemmas.{same_itself}
use Rattle.ror_work_group.specs.Entries.{group_kind}
use Rattle.ror_work_group.specs.Steps.{GroupJudging}
use Rattle.ror_work_group.proofs.judge.GroupJudgeJudge.read.Goals as goal

pub returns-clause-same : goal.returns-clause-same
returns-clause-same c =
    let kind = group_kind c.self.inside.table.now (lists_of c.self.inside.judges.items) in
    subst (λ (j : GroupJudging). IsSameKind kind (group_kind j.table j.lists)) c.self.view_is (same_itself kind)
