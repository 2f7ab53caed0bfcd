use Rattle.ror_show_find_roll.proofs.LawProofs.{shows_what_stands}
use Rattle.ror_show_find_roll.proofs.laws.shows_what_stands.Goals as goal

pub returns : goal.returns
returns c = shows_what_stands
