use Rattle.ror_check.proofs.Repairs.{proved_is_repair}
use Rattle.ror_check.proofs.laws.proved_repairs_are_true.Goals as goal

pub returns : goal.returns
returns c = proved_is_repair
