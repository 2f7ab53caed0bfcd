use Rattle.ror_ranks.proofs.ConflictTruth.{proved_ranks_true}
use Rattle.ror_ranks.proofs.laws.proved_ranks_are_true.Goals as goal

pub returns : goal.returns
returns c = proved_ranks_true
