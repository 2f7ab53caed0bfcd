use Rattle.ror_confidence.proofs.Nested.{levels_nested}
use Rattle.ror_confidence.proofs.laws.levels_are_nested.Goals as goal

pub returns : goal.returns
returns c = levels_nested
