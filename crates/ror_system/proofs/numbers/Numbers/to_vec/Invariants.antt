use Rattle.ror_system.proofs.NumberLemmas.{IsLeftToSpread}
use Rattle.ror_system.proofs.numbers.Numbers.to_vec.Given as goal

abbrev pub invariant-loop-index : goal.invariant-loop-index
invariant-loop-index l = IsLeftToSpread l.numbers.items l.self-inside.len l.self-inside.places.items l.self-inside.values l.index l.self
