use Rattle.ror_check.proofs.Repairs.{one_repair}
use Rattle.ror_check.proofs.laws.one_repair.Goals as goal

pub returns : goal.returns
returns c = one_repair
