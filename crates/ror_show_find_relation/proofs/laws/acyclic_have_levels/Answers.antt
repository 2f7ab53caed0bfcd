use Rattle.ror_show_find_relation.proofs.Cycles.{acyclic-levelled}
use Rattle.ror_show_find_relation.proofs.laws.acyclic_have_levels.Goals as goal

pub returns : goal.returns
returns c = acyclic-levelled
