use Rattle.ror_closing.proofs.StandingLemmas.{one_standing}
use Rattle.ror_closing.proofs.laws.one_standing.Goals as goal

pub returns : goal.returns
returns c = one_standing
