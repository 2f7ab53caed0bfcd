use Rattle.ror_show_find_relation.proofs.Known.{known-of}
use Rattle.ror_show_find_relation.proofs.laws.known_is_true.Goals as goal

pub returns : goal.returns
returns c = known-of
