use Rattle.ror_show_find_proofs.proofs.Systems.{refutations_fit}
use Rattle.ror_show_find_proofs.proofs.laws.refutations_fit.Goals as goal

pub returns : goal.returns
returns c = refutations_fit
