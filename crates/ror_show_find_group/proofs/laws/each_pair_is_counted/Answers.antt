use Rattle.ror_show_find_group.proofs.CountLemmas.{each_counted}
use Rattle.ror_show_find_group.proofs.laws.each_pair_is_counted.Goals as goal

pub returns : goal.returns
returns c = each_counted
