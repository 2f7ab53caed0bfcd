use Rattle.ror_bench.proofs.Truth.{blocks_true}
use Rattle.ror_bench.proofs.laws.proved_blocks_are_true.Goals as goal

pub returns : goal.returns
returns c = blocks_true
