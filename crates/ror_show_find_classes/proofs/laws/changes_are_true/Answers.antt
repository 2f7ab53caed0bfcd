use Rattle.ror_show_find_classes.proofs.ChangeLemmas.{changes-true}
use Rattle.ror_show_find_classes.proofs.laws.changes_are_true.Goals as goal

pub returns : goal.returns
returns c = changes-true
