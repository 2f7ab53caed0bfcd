use Rattle.ror_ranks.proofs.TreeCounts.{trees_count}
use Rattle.ror_ranks.proofs.laws.trees_count.Goals as goal

pub returns : goal.returns
returns c = trees_count
