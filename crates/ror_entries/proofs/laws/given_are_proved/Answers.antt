use Rattle.ror_entries.proofs.WriteLemmas.{given_are_proved}
use Rattle.ror_entries.proofs.laws.given_are_proved.Goals as goal

pub returns : goal.returns
returns g c = λ maker. given_are_proved (g.M.Maker.kind maker) (g.M.Maker.given maker)
