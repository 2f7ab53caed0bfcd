-- What the names of the columns mean, and what is said where there are none.
use Rattle.std.specs.Prelude.{ℕ, List, [], codes}
use Rattle.ror_show_find_whatif.specs.declared.agreement.Agreement.{Agreement}
use Rattle.ror_show_find_whatif.specs.declared.agreement.Agreement.TheVariants.{Agrees, Contradicts, Unknown}
use Rattle.ror_show_find_whatif.specs.declared.outcome.Asks.{Asks}
use Rattle.ror_show_find_whatif.specs.declared.outcome.Asks.TheVariants.{Relation, Classes}

abbrev pub legend : Asks → List ℕ
legend Relation = codes "\n  ordered pairs, over all value functions that agree now, with all statements, and then, with the changed ones:\n     lost      now the first is at least as good as the second by every function, and then not by every one\n     weaker    now better by every one, and then at least as good by every one, and equally good by some\n     won       now not at least as good by every one, and then by every one\n     stronger  now at least as good by every one, and equally good by some, and then better by every one\n     unknown   a number is too wide to say how the two stand, now or then\n"
legend Classes = codes "\n  alternatives, over all value functions that agree now, with all statements, and then, with the changed ones:\n     opened    to some class it may belong by no function now, and by some then\n     closed    to some class by some function now, and by none then\n     loosened  to some class by every function now, and by some then, but not by every one\n     bound     to some class by some function now, but not by every one, and by every one then\n     unknown   of some class a number is too wide to say, now or then\n"

-- where the statements contradict each other
abbrev pub agreement_text : Agreement → List ℕ
agreement_text Contradicts = codes "  no function agrees with them\n"
agreement_text Agrees = []
agreement_text Unknown = []

-- where none stands
abbrev pub no_statement : List ℕ
no_statement = codes "\n  no statement stands that could be withdrawn\n"
