use Rattle.ror_bench.proofs.GeneratedSession.{hidden_value_meets}
use Rattle.ror_bench.proofs.laws.hidden_value_meets.Goals as goal

pub returns : goal.returns
returns c = hidden_value_meets
