use Rattle.ror_check.proofs.Repairs.{is_maximal, whole_repair}
use Rattle.ror_check.proofs.laws.repairs_are_maximal.Goals as goal

pub returns : goal.returns
returns c = record { maximal = is_maximal; of_consistent = whole_repair }
