use Rattle.ror_show_find_reasons.proofs.Better.{each_better_is_told}
use Rattle.ror_show_find_reasons.proofs.laws.each_better_is_told.Goals as goal

pub returns : goal.returns
returns c = each_better_is_told
