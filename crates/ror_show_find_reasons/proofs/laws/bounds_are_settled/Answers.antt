use Rattle.ror_show_find_reasons.proofs.BoundLaws.{bounds_are_settled}
use Rattle.ror_show_find_reasons.proofs.laws.bounds_are_settled.Goals as goal

pub returns : goal.returns
returns c = bounds_are_settled
