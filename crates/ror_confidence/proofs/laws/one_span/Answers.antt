use Rattle.ror_confidence.proofs.Truth.{one_span}
use Rattle.ror_confidence.proofs.laws.one_span.Goals as goal

pub returns : goal.returns
returns c = one_span
