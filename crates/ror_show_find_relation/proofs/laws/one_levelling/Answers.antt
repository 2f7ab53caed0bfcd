use Rattle.ror_show_find_relation.proofs.LevelLemmas.{one-levelling}
use Rattle.ror_show_find_relation.proofs.laws.one_levelling.Goals as goal

pub returns : goal.returns
returns c = one-levelling
