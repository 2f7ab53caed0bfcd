use Rattle.ror_show_find_classes.proofs.SignLemmas.{signs-true}
use Rattle.ror_show_find_classes.proofs.laws.signs_are_true.Goals as goal

pub returns : goal.returns
returns c = signs-true
