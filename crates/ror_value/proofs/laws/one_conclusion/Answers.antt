use Rattle.ror_value.proofs.Conclusions.{one_conclusion}
use Rattle.ror_value.proofs.laws.one_conclusion.Goals as goal

pub returns : goal.returns
returns c = one_conclusion
