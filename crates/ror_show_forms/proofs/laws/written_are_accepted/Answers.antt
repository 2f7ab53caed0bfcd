use Rattle.ror_show_forms.proofs.FoundPrinted.{written_are_accepted}
use Rattle.ror_show_forms.proofs.laws.written_are_accepted.Goals as goal

pub returns : goal.returns
returns c = written_are_accepted
