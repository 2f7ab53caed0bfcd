use Rattle.ror_ranks.proofs.RankLemmas.{always_above_counts}
use Rattle.ror_ranks.proofs.laws.always_above_counts.Goals as goal

pub returns : goal.returns
returns c = always_above_counts
