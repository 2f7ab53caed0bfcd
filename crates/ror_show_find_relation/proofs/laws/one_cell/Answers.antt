use Rattle.ror_show_find_relation.proofs.OneCell.{one-cell}
use Rattle.ror_show_find_relation.proofs.laws.one_cell.Goals as goal

pub returns : goal.returns
returns c = one-cell
