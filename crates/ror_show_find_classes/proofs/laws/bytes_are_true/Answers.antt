use Rattle.ror_show_find_classes.proofs.ByteLemmas.{bytes_true}
use Rattle.ror_show_find_classes.proofs.laws.bytes_are_true.Goals as goal

pub returns : goal.returns
returns c = bytes_true
