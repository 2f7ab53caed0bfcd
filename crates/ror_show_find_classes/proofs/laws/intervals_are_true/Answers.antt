use Rattle.ror_show_find_classes.proofs.IntervalLemmas.{intervals_true}
use Rattle.ror_show_find_classes.proofs.laws.intervals_are_true.Goals as goal

pub returns : goal.returns
returns c = intervals_true
