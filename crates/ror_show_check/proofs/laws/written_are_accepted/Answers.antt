use Rattle.ror_show_check.proofs.Written.{written_accepted}
use Rattle.ror_show_check.proofs.laws.written_are_accepted.Goals as goal

pub returns : goal.returns
returns c = written_accepted
