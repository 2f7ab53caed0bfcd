use Rattle.ror_value.proofs.Values.{normalised_and_monotone}
use Rattle.ror_value.proofs.laws.normalised_and_monotone.Goals as goal

pub returns : goal.returns
returns c = normalised_and_monotone
