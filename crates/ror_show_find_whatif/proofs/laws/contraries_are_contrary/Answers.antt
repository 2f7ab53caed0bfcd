use Rattle.ror_show_find_whatif.proofs.Contraries.{contraries}
use Rattle.ror_show_find_whatif.proofs.laws.contraries_are_contrary.Goals as goal

pub returns : goal.returns
returns c = contraries
