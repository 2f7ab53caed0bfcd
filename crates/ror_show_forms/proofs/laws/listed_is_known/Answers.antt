use Rattle.ror_show_forms.proofs.ListedProofs.{listed-known}
use Rattle.ror_show_forms.proofs.laws.listed_is_known.Goals as goal

pub returns : goal.returns
returns c = listed-known
