use Rattle.ror_show_find_roll.proofs.LineLemmas.{each_line_once}
use Rattle.ror_show_find_roll.proofs.laws.each_survives_or_is_taken_back.Goals as goal

pub returns : goal.returns
returns c = each_line_once
