use Rattle.ror_show_find_classes.proofs.TimeLaws.{times_those}
use Rattle.ror_show_find_classes.proofs.laws.times_are_those.Goals as goal

pub returns : goal.returns
returns c = times_those
