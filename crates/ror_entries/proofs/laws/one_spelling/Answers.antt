use Rattle.ror_entries.proofs.SpellingLemmas.{one_spelling}
use Rattle.ror_entries.proofs.laws.one_spelling.Goals as goal

pub returns : goal.returns
returns g c = λ judge lawful. one_spelling (g.J.Judge.kind judge) lawful
