use Rattle.ror_system.proofs.NumberLemmas.{IsLeftToPush}
use Rattle.ror_system.proofs.numbers.Numbers.of.Given as goal

abbrev pub invariant-loop-number : goal.invariant-loop-number
invariant-loop-number l = IsLeftToPush l.list l.numbers l.number-index l.numbers
