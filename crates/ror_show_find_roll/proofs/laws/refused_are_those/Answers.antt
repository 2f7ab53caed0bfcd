use Rattle.ror_show_find_roll.proofs.LineLemmas.{refused_those}
use Rattle.ror_show_find_roll.proofs.laws.refused_are_those.Goals as goal

pub returns : goal.returns
returns c = refused_those
