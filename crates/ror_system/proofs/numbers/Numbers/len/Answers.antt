use Rattle.ror_system.proofs.NumberLemmas.{as_many}
use Rattle.ror_system.proofs.numbers.Numbers.len.Goals as goal

pub returns : goal.returns
returns c = as_many _ c.self.inside.places.items c.self.inside.values _ c.self.invariant c.self.view_is
