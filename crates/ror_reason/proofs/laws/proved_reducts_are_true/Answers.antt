use Rattle.ror_reason.proofs.LawLemmas.{proved_is_reduct}
use Rattle.ror_reason.proofs.laws.proved_reducts_are_true.Goals as goal

pub returns : goal.returns
returns c = proved_is_reduct
