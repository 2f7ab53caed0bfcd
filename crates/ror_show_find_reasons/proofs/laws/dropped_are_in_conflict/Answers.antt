use Rattle.ror_show_find_reasons.proofs.Conflicts.{dropped_are_in_conflict}
use Rattle.ror_show_find_reasons.proofs.laws.dropped_are_in_conflict.Goals as goal

pub returns : goal.returns
returns c = dropped_are_in_conflict
