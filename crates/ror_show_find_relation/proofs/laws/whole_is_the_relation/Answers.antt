use Rattle.ror_show_find_relation.proofs.Known.{whole-of}
use Rattle.ror_show_find_relation.proofs.laws.whole_is_the_relation.Goals as goal

pub returns : goal.returns
returns c = whole-of
