use Rattle.ror_show_ground.proofs.TurnLemmas.{turns-are}
use Rattle.ror_show_ground.proofs.laws.turns_are_those.Goals as goal

pub returns : goal.returns
returns c = turns-are
