use Rattle.ror_show_find_relation.proofs.Listed.{listed}
use Rattle.ror_show_find_relation.proofs.laws.listed_are_those.Goals as goal

pub returns : goal.returns
returns c = listed
