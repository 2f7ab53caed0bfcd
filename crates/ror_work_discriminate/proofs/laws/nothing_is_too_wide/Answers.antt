use Rattle.ror_work_discriminate.proofs.BestLaws.{nothing_too_wide}
use Rattle.ror_work_discriminate.proofs.laws.nothing_is_too_wide.Goals as goal

pub returns : goal.returns
returns c = nothing_too_wide
