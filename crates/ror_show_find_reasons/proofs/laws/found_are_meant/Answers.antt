use Rattle.ror_show_find_reasons.proofs.AllMeaning.{found_are_meant}
use Rattle.ror_show_find_reasons.proofs.laws.found_are_meant.Goals as goal

pub returns : goal.returns
returns c = found_are_meant
