use Rattle.ror_check.proofs.Checking.{answer_is_true}
use Rattle.ror_check.proofs.laws.proofs_are_true.Goals as goal

pub returns : goal.returns
returns c = answer_is_true
