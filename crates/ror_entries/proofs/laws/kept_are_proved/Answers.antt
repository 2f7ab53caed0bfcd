use Rattle.ror_entries.proofs.KeepLemmas.{kept_is_proved, one_kept}
use Rattle.ror_entries.proofs.laws.kept_are_proved.Goals as goal

pub returns : goal.returns
returns g c = λ judge lawful. record { proved = kept_is_proved (g.J.Judge.kind judge); one_list = one_kept (g.J.Judge.kind judge) lawful }
