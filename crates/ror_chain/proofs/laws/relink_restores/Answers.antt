use Rattle.ror_chain.proofs.ChainLemmas.{restores_order, restores_one, restores_all}
use Rattle.ror_chain.proofs.laws.relink_restores.Goals as goal

pub returns : goal.returns
returns g c = record { order = restores_order; one = restores_one; all = restores_all }
