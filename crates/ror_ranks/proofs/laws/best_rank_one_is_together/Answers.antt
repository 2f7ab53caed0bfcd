use Rattle.ror_ranks.proofs.RankLemmas.{best_rank_one}
use Rattle.ror_ranks.proofs.laws.best_rank_one_is_together.Goals as goal

pub returns : goal.returns
returns c = best_rank_one
