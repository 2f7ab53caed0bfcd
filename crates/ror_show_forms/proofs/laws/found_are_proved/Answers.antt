use Rattle.ror_show_forms.proofs.FoundProved.{found_are_proved}
use Rattle.ror_show_forms.proofs.laws.found_are_proved.Goals as goal

pub returns : goal.returns
returns c = found_are_proved
