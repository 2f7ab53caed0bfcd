use Rattle.ror_discriminate.proofs.HeadLemmas.{headers_are_texts}
use Rattle.ror_discriminate.proofs.text_laws.headers_read_back.Goals as goal

pub returns : goal.returns
returns c = headers_are_texts
