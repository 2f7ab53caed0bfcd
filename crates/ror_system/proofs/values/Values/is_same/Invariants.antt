use Rattle.std.proofs.Common.{◌≡◌, ◌<◌, ℕ}
use Rattle.ror_integers.specs.Vectors.{entry}
use Rattle.ror_system.proofs.values.Values.is_same.Given as goal

abbrev pub invariant-loop-k : goal.invariant-loop-k
invariant-loop-k l = (j : ℕ) → j < l.k → entry l.self j ≡ entry l.other j
