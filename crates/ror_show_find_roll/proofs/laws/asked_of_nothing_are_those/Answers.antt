use Rattle.ror_show_find_roll.proofs.LineLemmas.{asked_those}
use Rattle.ror_show_find_roll.proofs.laws.asked_of_nothing_are_those.Goals as goal

pub returns : goal.returns
returns c = asked_those
