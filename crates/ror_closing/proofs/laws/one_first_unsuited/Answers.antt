use Rattle.ror_closing.proofs.LawLemmas.{one_first_unsuited}
use Rattle.ror_closing.proofs.laws.one_first_unsuited.Goals as goal

pub returns : goal.returns
returns c = one_first_unsuited
