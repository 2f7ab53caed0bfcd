use Rattle.ror_integers.specs.Vectors.{column}
use Rattle.ror_system.proofs.Sums.{IsLeft}
use Rattle.ror_system.proofs.Others.{IsWalked}
use Rattle.ror_system.proofs.sum.Sum.plus_column.Given as goal

abbrev pub invariant-loop-i : goal.invariant-loop-i
invariant-loop-i l = IsWalked l.multipliers l.places l.i (λ from. IsLeft l.sum.value l.initial.sum.value l.sum.width l.initial.sum.width l.multipliers (column l.rows l.j) from)
