use Rattle.ror_show_forms.proofs.Refusals.{proved_are_reducts}
use Rattle.ror_show_forms.proofs.laws.proved_are_reducts.Goals as goal

pub returns : goal.returns
returns c = proved_are_reducts
