use Rattle.ror_show_find_classes.proofs.TimeLaws.{rows_those}
use Rattle.ror_show_find_classes.proofs.laws.rows_are_those.Goals as goal

pub returns : goal.returns
returns c = rows_those
