use Rattle.std.proofs.Common.{◌≡◌, take}
use Rattle.ror_integers.specs.Gcd.{gcd_of, divided}
use Rattle.ror_table.proofs.weights.reduced.Given as goal

abbrev pub invariant-loop-number : goal.invariant-loop-number
invariant-loop-number l = l.quotients.items ≡ divided (take l.number-index l.numbers) (gcd_of l.numbers)
