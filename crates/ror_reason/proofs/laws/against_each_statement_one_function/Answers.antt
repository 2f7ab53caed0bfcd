use Rattle.ror_reason.proofs.FunctionLemmas.{against_each}
use Rattle.ror_reason.proofs.laws.against_each_statement_one_function.Goals as goal

pub returns : goal.returns
returns c = against_each
