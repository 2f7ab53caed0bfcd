use Rattle.ror_check.proofs.RepairFirstFaults.{repair_passes}
use Rattle.ror_check.proofs.laws.proved_repair_passes_each_test.Goals as goal

pub returns : goal.returns
returns c = repair_passes
