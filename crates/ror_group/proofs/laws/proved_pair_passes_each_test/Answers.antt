use Rattle.ror_group.proofs.Pairs.{pair_passes}
use Rattle.ror_group.proofs.laws.proved_pair_passes_each_test.Goals as goal

pub returns : goal.returns
returns c = pair_passes
