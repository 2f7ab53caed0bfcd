use Rattle.ror_xmcda.proofs.LawLemmas.{content_ordered}
use Rattle.ror_xmcda.proofs.laws.openings_are_ordered.Goals as goal

pub returns : goal.returns
returns c = content_ordered
