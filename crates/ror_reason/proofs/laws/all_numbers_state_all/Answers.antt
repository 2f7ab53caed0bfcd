use Rattle.ror_reason.proofs.Parts.{stated-whole}
use Rattle.ror_reason.proofs.laws.all_numbers_state_all.Goals as goal

pub returns : goal.returns
returns c = stated-whole
