use Rattle.ror_show_find_core.proofs.Core.{stays_has_reduct}
use Rattle.ror_show_find_core.proofs.laws.stays_has_reduct.Goals as goal

pub returns : goal.returns
returns c = stays_has_reduct
