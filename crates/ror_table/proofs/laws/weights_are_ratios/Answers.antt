use Rattle.ror_table.proofs.WeightLemmas.{weights_are_ratios}
use Rattle.ror_table.proofs.laws.weights_are_ratios.Goals as goal

pub returns : goal.returns
returns c = weights_are_ratios
