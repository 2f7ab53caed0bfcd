use Rattle.ror_show_find_relation.proofs.CountLemmas.{each-counted}
use Rattle.ror_show_find_relation.proofs.laws.each_pair_is_counted.Goals as goal

pub returns : goal.returns
returns c = each-counted
