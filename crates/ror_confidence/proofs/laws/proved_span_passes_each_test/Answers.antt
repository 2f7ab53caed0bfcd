use Rattle.ror_confidence.proofs.Checks.{span_passes}
use Rattle.ror_confidence.proofs.laws.proved_span_passes_each_test.Goals as goal

pub returns : goal.returns
returns c = span_passes
