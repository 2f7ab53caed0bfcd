use Rattle.ror_show_cells.proofs.Meaning.{one_mark_is_shown}
use Rattle.ror_show_cells.proofs.laws.one_mark_is_shown.Goals as goal

pub returns : goal.returns
returns c = one_mark_is_shown
