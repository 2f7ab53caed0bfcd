use Rattle.ror_ranks.proofs.FaultLemmas.{one_ranks_fault}
use Rattle.ror_ranks.proofs.laws.one_first_fault.Goals as goal

pub returns : goal.returns
returns c = one_ranks_fault
