use Rattle.std.proofs.Common.{◌≡◌, ◌++◌, replicate, pos}
use Rattle.ror_system.proofs.numbers.push_zeros.Given as goal

abbrev pub invariant-loop-place : goal.invariant-loop-place
invariant-loop-place l = l.numbers.items ≡ l.initial.numbers.items ++ replicate l._place (pos 0)
