use Rattle.ror_xmcda.proofs.LawLemmas.{plain_read}
use Rattle.ror_xmcda.proofs.laws.plain_tables_are_read.Goals as goal

pub returns : goal.returns
returns c = plain_read
