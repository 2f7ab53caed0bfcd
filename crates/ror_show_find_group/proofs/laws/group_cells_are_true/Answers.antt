use Rattle.ror_show_find_group.proofs.CellLemmas.{cells_true}
use Rattle.ror_show_find_group.proofs.laws.group_cells_are_true.Goals as goal

pub returns : goal.returns
returns c = cells_true
