use Rattle.ror_check.proofs.FirstFaults.{passes_each_test}
use Rattle.ror_check.proofs.laws.proved_passes_each_test.Goals as goal

pub returns : goal.returns
returns c = passes_each_test
