use Rattle.std.proofs.Common.{◌≡◌, ◌+◌, ◌%◌}
use Rattle.ror_integers.specs.Gcd.{gcd}
use Rattle.ror_word.proofs.divisors.gcd_of_odds_64.Given as goal

abbrev pub invariant-loop-left : goal.invariant-loop-left
invariant-loop-left l = record { odd_left : l.left % 2 ≡ 1; odd_right : l.right % 2 ≡ 1; same : gcd l.left l.right ≡ gcd l.fn.a l.fn.b }

abbrev pub decreases-loop-left : goal.decreases-loop-left
decreases-loop-left l = l.left + l.right
