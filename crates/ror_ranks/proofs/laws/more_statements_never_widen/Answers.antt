use Rattle.ror_ranks.proofs.RankLemmas.{from_stays, to_stays, best_stays, worst_stays}
use Rattle.ror_ranks.proofs.laws.more_statements_never_widen.Goals as goal

pub returns : goal.returns
returns c = record { from = from_stays; to = to_stays; best = best_stays; worst = worst_stays }
