use Rattle.ror_show_find_roll.proofs.GoneLemmas.{each_once}
use Rattle.ror_show_find_roll.proofs.laws.each_stands_or_is_gone.Goals as goal

pub returns : goal.returns
returns c = each_once
