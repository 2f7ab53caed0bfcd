use Rattle.ror_show_find_reasons.proofs.PairLaws.{arrows_are_carried}
use Rattle.ror_show_find_reasons.proofs.laws.arrows_are_carried.Goals as goal

pub returns : goal.returns
returns c = arrows_are_carried
