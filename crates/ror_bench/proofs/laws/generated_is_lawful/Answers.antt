use Rattle.ror_bench.proofs.GeneratedSession.{generated_lawful}
use Rattle.ror_bench.proofs.laws.generated_is_lawful.Goals as goal

pub returns : goal.returns
returns c = generated_lawful
