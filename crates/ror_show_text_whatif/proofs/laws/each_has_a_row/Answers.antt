use Rattle.ror_show_text_whatif.proofs.Most.{each_has_a_row}
use Rattle.ror_show_text_whatif.proofs.laws.each_has_a_row.Goals as goal

pub returns : goal.returns
returns c = each_has_a_row
