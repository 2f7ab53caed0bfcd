use Rattle.ror_history.proofs.FaultLemmas.{one_first_added, one_first_withdrawn, one_first_replaced}
use Rattle.ror_history.proofs.laws.one_first_fault.Goals as goal

pub returns : goal.returns
returns c = record { added = one_first_added; withdrawn = one_first_withdrawn; replaced = one_first_replaced }
