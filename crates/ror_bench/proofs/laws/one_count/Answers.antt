use Rattle.ror_bench.proofs.UniqueLemmas.{one_count}
use Rattle.ror_bench.proofs.laws.one_count.Goals as goal

pub returns : goal.returns
returns c = one_count
