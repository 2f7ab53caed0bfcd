use Rattle.std.proofs.Common.{subst}
use Rattle.ror_entries.specs.Kind.{IsKind}
use Rattle.ror_work_ranks.specs.Entries.{ranks_kind}
use Rattle.ror_work_ranks.specs.Steps.{RanksJudging}
use Rattle.ror_work_ranks.proofs.KindLemmas.{are_kind}
use Rattle.ror_work_ranks.proofs.judge.RanksJudgeJudge.count.Goals as goal

pub returns-clause-lawful : goal.returns-clause-lawful
returns-clause-lawful c =
    let inside = c.self.inside in
    subst (λ (j : RanksJudging). IsKind (ranks_kind j.table j.names j.lists)) c.self.view_is (are_kind inside.bench.table inside.names inside.lists.items c.self.invariant)
