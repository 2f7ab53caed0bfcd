use Rattle.std.proofs.Common.{ℕ, ap, ◌==◌}
use Rattle.ror_system.proofs.NumberLemmas.{as_many}
use Rattle.ror_system.proofs.numbers.Numbers.is_empty.Goals as goal

pub returns : goal.returns
returns c = ap (λ (n : ℕ). n == 0) (as_many _ c.self.inside.places.items c.self.inside.values _ c.self.invariant c.self.view_is)
