use Rattle.ror_show_find_roll.proofs.LineLemmas.{taken_back_those}
use Rattle.ror_show_find_roll.proofs.laws.taken_back_are_those.Goals as goal

pub returns : goal.returns
returns c = taken_back_those
