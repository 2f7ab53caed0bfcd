-- No system that multipliers refute has a solution.
use Rattle.std.proofs.Common.{List, ℤ}
use Rattle.ror_integers.proofs.Motzkin.{never_both}
use Rattle.ror_system.specs.System.{LinearSystem, IsSolvable, Refutes}

pub not_both : (s : LinearSystem) (weak strict : List ℤ) → Refutes s weak strict → ¬ (IsSolvable s)
not_both s weak strict refute solution = never_both s.weak s.strict weak strict solution.0 refute solution.1.rows
