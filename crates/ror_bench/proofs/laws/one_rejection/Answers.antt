use Rattle.ror_bench.proofs.UniqueLemmas.{one_rejection}
use Rattle.ror_bench.proofs.laws.one_rejection.Goals as goal

pub returns : goal.returns
returns c = one_rejection
