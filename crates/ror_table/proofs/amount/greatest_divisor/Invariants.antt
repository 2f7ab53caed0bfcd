use Rattle.std.proofs.Common.{◌≡◌}
use Rattle.ror_integers.specs.Gcd.{gcd}
use Rattle.ror_table.proofs.amount.greatest_divisor.Given as goal

abbrev pub invariant-steps : goal.invariant-steps
invariant-steps l = gcd l.last l.rest ≡ gcd l.fn.a l.fn.b

abbrev pub decreases-steps : goal.decreases-steps
decreases-steps l = l.rest
