use Rattle.ror_show_find_relation.proofs.CellLemmas.{cells-true}
use Rattle.ror_show_find_relation.proofs.laws.cells_are_true.Goals as goal

pub returns : goal.returns
returns c t list xs n a b all = cells-true t list xs n a b all
