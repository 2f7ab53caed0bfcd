use Rattle.ror_work_group.proofs.GroupLaws.{nothing_too_wide}
use Rattle.ror_work_group.proofs.laws.nothing_is_too_wide.Goals as goal

pub returns : goal.returns
returns c = nothing_too_wide
