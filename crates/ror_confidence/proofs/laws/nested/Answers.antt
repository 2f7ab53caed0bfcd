use Rattle.ror_confidence.proofs.Nested.{lists_nested}
use Rattle.ror_confidence.proofs.laws.nested.Goals as goal

pub returns : goal.returns
returns c = lists_nested
