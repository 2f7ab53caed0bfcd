use Rattle.ror_xmcda.proofs.LawLemmas.{class_by_rank}
use Rattle.ror_xmcda.proofs.laws.classes_go_by_rank.Goals as goal

pub returns : goal.returns
returns c = class_by_rank
