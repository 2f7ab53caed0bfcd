use Rattle.ror_show_find_proofs.proofs.NumberProofs.{shown_are_values}
use Rattle.ror_show_find_proofs.proofs.laws.shown_are_values.Goals as goal

pub returns : goal.returns
returns c = shown_are_values
