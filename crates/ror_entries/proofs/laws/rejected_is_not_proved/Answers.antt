use Rattle.ror_entries.proofs.RestLemmas.{rejected_not_proved}
use Rattle.ror_entries.proofs.laws.rejected_is_not_proved.Goals as goal

pub returns : goal.returns
returns g c = λ judge lawful. rejected_not_proved (g.J.Judge.kind judge) lawful
