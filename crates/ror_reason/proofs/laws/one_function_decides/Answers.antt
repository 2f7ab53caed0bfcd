use Rattle.ror_reason.proofs.FunctionLemmas.{one_decides}
use Rattle.ror_reason.proofs.laws.one_function_decides.Goals as goal

pub returns : goal.returns
returns c = one_decides
