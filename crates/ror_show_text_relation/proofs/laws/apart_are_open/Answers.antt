use Rattle.ror_show_text_relation.proofs.ApartLemmas.{apart_open}
use Rattle.ror_show_text_relation.proofs.laws.apart_are_open.Goals as goal

pub returns : goal.returns
returns c = apart_open
