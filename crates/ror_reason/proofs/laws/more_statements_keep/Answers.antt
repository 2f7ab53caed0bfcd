use Rattle.ror_reason.proofs.LawLemmas.{more_keep}
use Rattle.ror_reason.proofs.laws.more_statements_keep.Goals as goal

pub returns : goal.returns
returns c = more_keep
