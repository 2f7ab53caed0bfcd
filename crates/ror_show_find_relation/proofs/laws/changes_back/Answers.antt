use Rattle.ror_show_find_relation.proofs.Back.{changes_back}
use Rattle.ror_show_find_relation.proofs.laws.changes_back.Goals as goal

pub returns : goal.returns
returns c = changes_back
