use Rattle.std.proofs.Common.{ℕ, ◌<◌, ◌≤◌, unsigned_abs}
use Rattle.ror_integers.specs.Vectors.{entry}
use Rattle.ror_system.proofs.numbers.Numbers.are_within.Given as goal

abbrev pub invariant-loop-index : goal.invariant-loop-index
invariant-loop-index l = (j : ℕ) → j < l.index → unsigned_abs (entry l.self-inside.values j) ≤ l.most
