use Rattle.ror_ranks.proofs.Counting.{ranks_are_counts}
use Rattle.ror_ranks.proofs.laws.ranks_are_counts.Goals as goal

pub returns : goal.returns
returns c = ranks_are_counts
