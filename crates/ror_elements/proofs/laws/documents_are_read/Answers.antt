use Rattle.ror_elements.proofs.DocumentLemmas.{documents_are_read}
use Rattle.ror_elements.proofs.laws.documents_are_read.Goals as goal

pub returns : goal.returns
returns c = documents_are_read
