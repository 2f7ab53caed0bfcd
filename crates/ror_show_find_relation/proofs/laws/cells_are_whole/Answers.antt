use Rattle.ror_show_find_relation.proofs.WholeCells.{cells-whole}
use Rattle.ror_show_find_relation.proofs.laws.cells_are_whole.Goals as goal

pub returns : goal.returns
returns c = cells-whole
