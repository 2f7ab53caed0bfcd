use Rattle.ror_ranks.proofs.ConflictTruth.{proved_conflicts_true}
use Rattle.ror_ranks.proofs.laws.proved_conflicts_are_true.Goals as goal

pub returns : goal.returns
returns c = proved_conflicts_true
