use Rattle.ror_show_find_proofs.proofs.LinearProofs.{others_may_bend}
use Rattle.ror_show_find_proofs.proofs.laws.others_may_bend.Goals as goal

pub returns : goal.returns
returns c = others_may_bend
