use Rattle.ror_show_find_classes.proofs.SignLemmas.{one-sign}
use Rattle.ror_show_find_classes.proofs.laws.one_sign.Goals as goal

pub returns : goal.returns
returns c = one-sign
