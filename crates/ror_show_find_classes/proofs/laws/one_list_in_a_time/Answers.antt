use Rattle.ror_show_find_classes.proofs.TimeLemmas.{one_list}
use Rattle.ror_show_find_classes.proofs.laws.one_list_in_a_time.Goals as goal

pub returns : goal.returns
returns c = one_list
