use Rattle.ror_work_ranks.proofs.RanksLaws.{nothing_too_wide}
use Rattle.ror_work_ranks.proofs.laws.nothing_is_too_wide.Goals as goal

pub returns : goal.returns
returns c = nothing_too_wide
