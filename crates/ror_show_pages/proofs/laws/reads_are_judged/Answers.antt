use Rattle.ror_show_pages.proofs.ReadLemmas.{kept_judged}
use Rattle.ror_show_pages.proofs.laws.reads_are_judged.Goals as goal

pub returns : goal.returns
returns c = kept_judged
