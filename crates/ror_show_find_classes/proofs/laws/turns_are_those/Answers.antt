use Rattle.ror_show_find_classes.proofs.TimeTurnLemmas.{turns-are}
use Rattle.ror_show_find_classes.proofs.laws.turns_are_those.Goals as goal

pub returns : goal.returns
returns c = turns-are
