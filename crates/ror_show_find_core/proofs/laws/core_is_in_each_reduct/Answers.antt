use Rattle.ror_show_find_core.proofs.Core.{core_is_in_each_reduct}
use Rattle.ror_show_find_core.proofs.laws.core_is_in_each_reduct.Goals as goal

pub returns : goal.returns
returns c = core_is_in_each_reduct
