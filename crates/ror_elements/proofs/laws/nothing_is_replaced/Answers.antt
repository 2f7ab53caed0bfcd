use Rattle.ror_elements.proofs.LawLemmas.{nothing_is_replaced}
use Rattle.ror_elements.proofs.laws.nothing_is_replaced.Goals as goal

pub returns : goal.returns
returns c = nothing_is_replaced
