use Rattle.ror_entries.proofs.SpellingLemmas.{one_rejection}
use Rattle.ror_entries.proofs.laws.one_rejection.Goals as goal

pub returns : goal.returns
returns g c = λ judge lawful. one_rejection (g.J.Judge.kind judge) lawful
