use Rattle.ror_entries.proofs.SpellingLemmas.{one_count}
use Rattle.ror_entries.proofs.laws.one_count.Goals as goal

pub returns : goal.returns
returns g c = λ judge lawful. one_count (g.J.Judge.kind judge) lawful
