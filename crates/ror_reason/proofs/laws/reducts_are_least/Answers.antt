use Rattle.ror_reason.proofs.LawLemmas.{reducts_least}
use Rattle.ror_reason.proofs.laws.reducts_are_least.Goals as goal

pub returns : goal.returns
returns c = reducts_least
