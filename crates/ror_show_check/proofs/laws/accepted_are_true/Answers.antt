use Rattle.ror_show_check.proofs.Stood.{accepted_true}
use Rattle.ror_show_check.proofs.laws.accepted_are_true.Goals as goal

pub returns : goal.returns
returns c = accepted_true
