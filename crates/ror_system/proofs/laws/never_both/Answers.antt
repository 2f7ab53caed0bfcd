use Rattle.ror_system.proofs.Motzkin.{not_both}
use Rattle.ror_system.proofs.laws.never_both.Goals as goal

pub returns : goal.returns
returns c = not_both
