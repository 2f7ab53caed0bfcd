use Rattle.std.proofs.Common.{◌++◌, drop}
use Rattle.ror_system.proofs.NumberLemmas.{IsLeftToPush}
use Rattle.ror_system.proofs.numbers.Numbers.push_rest.Given as goal

abbrev pub invariant-loop-k : goal.invariant-loop-k
invariant-loop-k l = IsLeftToPush l.self l.other l.k (l.initial.self ++ drop l.from l.other)
