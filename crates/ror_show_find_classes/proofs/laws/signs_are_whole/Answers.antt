use Rattle.ror_show_find_classes.proofs.WholeLemmas.{signs_whole}
use Rattle.ror_show_find_classes.proofs.laws.signs_are_whole.Goals as goal

pub returns : goal.returns
returns c = signs_whole
