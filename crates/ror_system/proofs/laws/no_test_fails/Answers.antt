use Rattle.ror_system.proofs.Reasons.{accepted_solution, accepted_multipliers}
use Rattle.ror_system.proofs.SolutionTests as solution
use Rattle.ror_system.proofs.MultiplierTests as multipliers
use Rattle.ror_system.proofs.laws.no_test_fails.Goals as goal

pub returns : goal.returns
returns c = record {
  of_solutions = λ s d. (solution.none_fails s d, accepted_solution s d);
  of_multipliers = λ s weak strict. (multipliers.none_fails s weak strict, accepted_multipliers s weak strict);
}
