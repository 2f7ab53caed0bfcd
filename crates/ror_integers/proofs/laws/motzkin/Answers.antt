use Rattle.ror_integers.proofs.Motzkin.{never_both}
use Rattle.ror_integers.proofs.laws.motzkin.Goals as goal

pub returns : goal.returns
returns c = never_both
