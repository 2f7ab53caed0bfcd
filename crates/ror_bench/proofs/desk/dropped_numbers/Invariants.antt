use Rattle.std.proofs.Common.{◌≡◌, map, take}
use Rattle.ror_bench.proofs.desk.dropped_numbers.Given as goal

abbrev pub invariant-loop-one : goal.invariant-loop-one
invariant-loop-one l = l.numbers.items ≡ map (λ d. d.number) (take l.one-index l.dropped)
