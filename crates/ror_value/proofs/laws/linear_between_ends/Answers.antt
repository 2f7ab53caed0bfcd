use Rattle.ror_value.proofs.Values.{linear_between_ends}
use Rattle.ror_value.proofs.laws.linear_between_ends.Goals as goal

pub returns : goal.returns
returns c = linear_between_ends
