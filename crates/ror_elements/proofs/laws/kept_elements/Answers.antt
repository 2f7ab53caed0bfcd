use Rattle.ror_elements.proofs.ListedLemmas.{kept_elements_are_listed}
use Rattle.ror_elements.proofs.laws.kept_elements.Goals as goal

pub returns : goal.returns
returns c = kept_elements_are_listed
