use Rattle.std.proofs.Common.{subst}
use Rattle.ror_entries.specs.Kind.{IsKind}
use Rattle.ror_work_discriminate.specs.Entries.{best_kind}
use Rattle.ror_work_discriminate.specs.Steps.{BestJudging}
use Rattle.ror_work_discriminate.proofs.KindLemmas.{are_kind}
use Rattle.ror_work_discriminate.proofs.judge.BestJudgeJudge.count.Goals as goal

pub returns-clause-lawful : goal.returns-clause-lawful
returns-clause-lawful c =
    let inside = c.self.inside in
    subst (λ (j : BestJudging). IsKind (best_kind j.table j.names j.lists)) c.self.view_is (are_kind inside.bench.table inside.names inside.lists.items c.self.invariant)
