use Rattle.ror_show_find_relation.proofs.ArrowLemmas.{closure}
use Rattle.ror_show_find_relation.proofs.laws.arrows_close.Goals as goal

pub returns : goal.returns
returns c = closure
