use Rattle.ror_show_find_relation.proofs.DominanceLemmas.{dominance-necessary}
use Rattle.ror_show_find_relation.proofs.laws.dominance_is_necessary.Goals as goal

pub returns : goal.returns
returns c = dominance-necessary
