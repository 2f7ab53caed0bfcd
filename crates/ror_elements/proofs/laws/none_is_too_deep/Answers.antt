use Rattle.ror_elements.proofs.LawLemmas.{none_is_too_deep}
use Rattle.ror_elements.proofs.laws.none_is_too_deep.Goals as goal

pub returns : goal.returns
returns c = none_is_too_deep
