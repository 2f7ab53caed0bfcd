use Rattle.ror_show_pages.proofs.FunctionTruth.{functions_are_true}
use Rattle.ror_show_pages.proofs.laws.functions_are_true.Goals as goal

pub returns : goal.returns
returns c = functions_are_true
