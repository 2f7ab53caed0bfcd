use Rattle.ror_ranks.proofs.GivenRanks.{none_too_wide}
use Rattle.ror_ranks.proofs.laws.nothing_is_too_wide.Goals as goal

pub returns : goal.returns
returns c = none_too_wide
