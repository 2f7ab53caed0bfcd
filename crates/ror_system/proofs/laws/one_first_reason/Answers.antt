use Rattle.ror_system.proofs.Reasons.{one_solution_reason, one_multiplier_reason}
use Rattle.ror_system.proofs.laws.one_first_reason.Goals as goal

pub returns : goal.returns
returns c = record { of_solutions = one_solution_reason; of_multipliers = one_multiplier_reason }
