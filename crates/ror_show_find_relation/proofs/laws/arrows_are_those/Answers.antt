use Rattle.ror_show_find_relation.proofs.ArrowLemmas.{listed}
use Rattle.ror_show_find_relation.proofs.laws.arrows_are_those.Goals as goal

pub returns : goal.returns
returns c = listed
