use Rattle.ror_show_find_group.proofs.JudgeLemmas.{contradicts_true}
use Rattle.ror_show_find_group.proofs.laws.contradictions_are_true.Goals as goal

pub returns : goal.returns
returns c = contradicts_true
