use Rattle.ror_show_find_group.proofs.JudgeLemmas.{judge_true}
use Rattle.ror_show_find_group.proofs.laws.judges_are_true.Goals as goal

pub returns : goal.returns
returns c = judge_true
