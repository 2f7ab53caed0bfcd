use Rattle.ror_show_forms.proofs.ListLemmas.{one_list}
use Rattle.ror_show_forms.proofs.laws.one_spelling.Goals as goal

pub returns : goal.returns
returns c = one_list
