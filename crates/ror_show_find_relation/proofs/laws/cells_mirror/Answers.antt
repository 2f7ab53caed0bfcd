use Rattle.ror_show_find_relation.proofs.Mirror.{mirrored}
use Rattle.ror_show_find_relation.proofs.laws.cells_mirror.Goals as goal

pub returns : goal.returns
returns c = mirrored
