use Rattle.ror_show_find_group.proofs.PairLemmas.{differing_those}
use Rattle.ror_show_find_group.proofs.laws.differing_are_those.Goals as goal

pub returns : goal.returns
returns c = differing_those
