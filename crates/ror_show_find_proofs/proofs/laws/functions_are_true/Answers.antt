use Rattle.ror_show_find_proofs.proofs.Truth.{functions_are_true}
use Rattle.ror_show_find_proofs.proofs.laws.functions_are_true.Goals as goal

pub returns : goal.returns
returns c = functions_are_true
