use Rattle.ror_show_text_reasons.proofs.DominanceProofs.{dominance_holds}
use Rattle.ror_show_text_reasons.proofs.laws.dominance_holds.Goals as goal

pub returns : goal.returns
returns c = dominance_holds
