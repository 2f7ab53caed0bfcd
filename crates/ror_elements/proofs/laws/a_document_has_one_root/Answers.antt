use Rattle.ror_elements.proofs.DocumentLemmas.{one_root}
use Rattle.ror_elements.proofs.laws.a_document_has_one_root.Goals as goal

pub returns : goal.returns
returns c = one_root
