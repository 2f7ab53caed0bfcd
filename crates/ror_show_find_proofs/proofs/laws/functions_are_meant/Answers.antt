use Rattle.ror_show_find_proofs.proofs.MeaningProofs.{functions_are_meant}
use Rattle.ror_show_find_proofs.proofs.laws.functions_are_meant.Goals as goal

pub returns : goal.returns
returns c = functions_are_meant
