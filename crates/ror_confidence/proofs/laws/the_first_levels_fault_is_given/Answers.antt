use Rattle.ror_confidence.proofs.LevelsTexts.{fault_is_first}
use Rattle.ror_confidence.proofs.laws.the_first_levels_fault_is_given.Goals as goal

pub returns : goal.returns
returns c = fault_is_first
