use Rattle.ror_show_find_relation.proofs.DifferenceLemmas.{lists-difference}
use Rattle.ror_show_find_relation.proofs.laws.lists_are_the_difference.Goals as goal

pub returns : goal.returns
returns c = lists-difference
