use Rattle.ror_show_find_group.proofs.PairLemmas.{alone_true}
use Rattle.ror_show_find_group.proofs.laws.alone_is_true.Goals as goal

pub returns : goal.returns
returns c = alone_true
