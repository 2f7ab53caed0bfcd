use Rattle.ror_ranks.proofs.RankLemmas.{one_extreme_rank}
use Rattle.ror_ranks.proofs.laws.one_extreme_rank.Goals as goal

pub returns : goal.returns
returns c = one_extreme_rank
