use Rattle.ror_value.proofs.Values.{marginal-dot}
use Rattle.ror_value.proofs.laws.marginal_is_dot.Goals as goal

pub returns : goal.returns
returns c = marginal-dot
