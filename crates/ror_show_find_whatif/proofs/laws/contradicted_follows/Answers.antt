use Rattle.ror_show_find_whatif.proofs.Following.{contradicted_follows}
use Rattle.ror_show_find_whatif.proofs.laws.contradicted_follows.Goals as goal

pub returns : goal.returns
returns c = contradicted_follows
