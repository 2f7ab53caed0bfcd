use Rattle.ror_ranks.proofs.FaultLemmas.{proved_ranks_pass}
use Rattle.ror_ranks.proofs.laws.proved_ranks_pass_each_test.Goals as goal

pub returns : goal.returns
returns c = proved_ranks_pass
