use Rattle.ror_value.proofs.Relations.{relations}
use Rattle.ror_value.proofs.laws.relations.Goals as goal

pub returns : goal.returns
returns c = relations
