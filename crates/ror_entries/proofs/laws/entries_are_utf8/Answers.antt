use Rattle.ror_entries.proofs.SpellingLemmas.{entries_are_utf8}
use Rattle.ror_entries.proofs.laws.entries_are_utf8.Goals as goal

pub returns : goal.returns
returns g c = λ judge lawful. entries_are_utf8 (g.J.Judge.kind judge) lawful
