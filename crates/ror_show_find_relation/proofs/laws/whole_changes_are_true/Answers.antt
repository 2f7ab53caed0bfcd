use Rattle.ror_show_find_relation.proofs.WholeChanges.{whole-changes}
use Rattle.ror_show_find_relation.proofs.laws.whole_changes_are_true.Goals as goal

pub returns : goal.returns
returns c = whole-changes
