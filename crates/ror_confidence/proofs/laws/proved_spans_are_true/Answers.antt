use Rattle.ror_confidence.proofs.Truth.{proved_is_true}
use Rattle.ror_confidence.proofs.laws.proved_spans_are_true.Goals as goal

pub returns : goal.returns
returns c = proved_is_true
