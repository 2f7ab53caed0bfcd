use Rattle.std.proofs.Common.{◌≡◌, ◌<◌, drop}
use Rattle.ror_integers.specs.Gcd.{gcd, gcd_of}
use Rattle.ror_table.specs.declared.limits.TheConstants.{AMOUNT_LIMIT}
use Rattle.ror_table.proofs.weights.divisor_of.Given as goal

abbrev pub invariant-loop-number : goal.invariant-loop-number
invariant-loop-number l = record {
  all : gcd l.divisor (gcd_of (drop l.number-index l.numbers)) ≡ gcd_of l.numbers;
  small : l.divisor < AMOUNT_LIMIT;
}
