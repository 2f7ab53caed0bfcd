use Rattle.ror_reason.proofs.FaultLemmas.{reduct_passes}
use Rattle.ror_reason.proofs.laws.proved_reduct_passes_each_test.Goals as goal

pub returns : goal.returns
returns c = reduct_passes
