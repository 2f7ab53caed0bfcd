-- Whether some value function agrees with a list, by answers over it.
use Rattle.std.specs.Prelude.{Bool, not, List, Option, Some, None}
use Rattle.std.specs.List.{find}
use Rattle.ror_proof.specs.declared.answer.Answer.{Answer}
use Rattle.ror_check.specs.Proof.{is_wide}
use Rattle.ror_show_ground.specs.declared.said.Said.{Said}
use Rattle.ror_show_ground.specs.declared.said.Said.TheVariants as said
use Rattle.ror_show_ground.specs.Said.{said_by}
use Rattle.ror_show_find_whatif.specs.declared.agreement.Agreement.{Agreement}
use Rattle.ror_show_find_whatif.specs.declared.agreement.Agreement.TheVariants.{Agrees, Contradicts, Unknown}

-- whatever is concluded but a contradiction is concluded of a list that some function agrees with
abbrev pub agreement_in : Said → Agreement
agreement_in said.Yes = Agrees
agreement_in said.No = Agrees
agreement_in said.Contradiction = Contradicts
agreement_in said.Nothing = Unknown

abbrev pub is_concluded : Answer → Bool
is_concluded x = not (is_wide x.verdict)

abbrev pub agreement_of : Option Answer → Agreement
agreement_of (Some x) = agreement_in (said_by x.verdict)
agreement_of None = Unknown

-- by the first answer that concludes something
abbrev pub agreement_by : List Answer → Agreement
agreement_by xs = agreement_of (find is_concluded xs)
