use Rattle.ror_show_find_proofs.proofs.NumberProofs.{rounded_are_nearest}
use Rattle.ror_show_find_proofs.proofs.laws.rounded_are_nearest.Goals as goal

pub returns : goal.returns
returns c = rounded_are_nearest
