use Rattle.ror_ranks.proofs.RankLemmas.{best_to_worst, extreme_within}
use Rattle.ror_ranks.proofs.laws.ranks_are_in_order.Goals as goal

pub returns : goal.returns
returns c = record { order = best_to_worst; within = extreme_within }
