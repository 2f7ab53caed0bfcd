use Rattle.ror_show_find_relation.proofs.DifferenceLemmas.{listed-true}
use Rattle.ror_show_find_relation.proofs.laws.listed_is_true.Goals as goal

pub returns : goal.returns
returns c = listed-true
