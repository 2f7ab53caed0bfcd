use Rattle.ror_system.proofs.NumberLemmas.{others, values_of}
use Rattle.ror_system.proofs.numbers.Numbers.others.Goals as goal

pub returns-clause-places : goal.returns-clause-places
returns-clause-places c = let h = others _ c.self.inside.places.items c.self.inside.values _ c.self.invariant c.self.view_is in rw c.as_slice.ensures.value h

pub returns-clause-values : goal.returns-clause-values
returns-clause-values c = let h = values_of _ c.self.inside.places.items c.self.inside.values _ c.self.invariant c.self.view_is in rw c.as_slice.ensures.value h
