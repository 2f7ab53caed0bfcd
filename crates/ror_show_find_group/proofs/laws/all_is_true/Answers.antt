use Rattle.ror_show_find_group.proofs.AllLemmas.{all_of}
use Rattle.ror_show_find_group.proofs.laws.all_is_true.Goals as goal

pub returns : goal.returns
returns c = λ g found judged is. all_of g found judged is
