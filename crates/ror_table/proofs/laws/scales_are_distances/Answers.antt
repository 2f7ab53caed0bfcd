use Rattle.ror_table.proofs.ScaleLemmas.{scales_are_distances}
use Rattle.ror_table.proofs.laws.scales_are_distances.Goals as goal

pub returns : goal.returns
returns c = scales_are_distances
