use Rattle.ror_show_hints.proofs.LineProofs.{lines_those}
use Rattle.ror_show_hints.proofs.laws.lines_are_those.Goals as goal

pub returns : goal.returns
returns c = lines_those
