use Rattle.ror_show_find_roll.proofs.GoneLemmas.{gone_those}
use Rattle.ror_show_find_roll.proofs.laws.gone_are_those.Goals as goal

pub returns : goal.returns
returns c = gone_those
