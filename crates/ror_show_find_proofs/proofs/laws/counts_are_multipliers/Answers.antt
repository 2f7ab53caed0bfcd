use Rattle.ror_show_find_proofs.proofs.CountLemmas.{counts_are}
use Rattle.ror_show_find_proofs.proofs.laws.counts_are_multipliers.Goals as goal

pub returns : goal.returns
returns c = counts_are
