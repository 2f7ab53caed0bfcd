use Rattle.ror_show_find_roll.proofs.AskedLemmas.{asked_where_nothing_stands}
use Rattle.ror_show_find_roll.proofs.laws.asked_where_nothing_stands.Goals as goal

pub returns : goal.returns
returns c = asked_where_nothing_stands
