use Rattle.ror_show_find_proofs.proofs.Sufficing.{sums_suffice}
use Rattle.ror_show_find_proofs.proofs.laws.sums_suffice.Goals as goal

pub returns : goal.returns
returns c = sums_suffice
