use Rattle.std.proofs.Common.{◌≡◌, map, replicate, []}
use Rattle.ror_bench.proofs.bench.histories.Given as goal

abbrev pub invariant-loop : goal.invariant-loop
invariant-loop l = map (λ h. h.state) l.desks.items ≡ replicate l.counter (record { opening = l.opening; surviving = [] })
