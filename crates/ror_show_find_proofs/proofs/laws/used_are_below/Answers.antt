use Rattle.ror_show_find_proofs.proofs.Sufficing.{used_are_below}
use Rattle.ror_show_find_proofs.proofs.laws.used_are_below.Goals as goal

pub returns : goal.returns
returns c = used_are_below
