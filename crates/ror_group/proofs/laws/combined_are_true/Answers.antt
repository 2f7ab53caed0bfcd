use Rattle.ror_group.proofs.Groups.{combined_are_true}
use Rattle.ror_group.proofs.laws.combined_are_true.Goals as goal

pub returns : goal.returns
returns c = combined_are_true
