use Rattle.std.proofs.Common.{◌≡◌, ◌++◌}
use Rattle.std.specs.List.{flat_map, range_with_len}
use Rattle.ror_show_find_proofs.specs.Weights.{weight_at}
use Rattle.ror_show_find_proofs.proofs.weights.push_weights.Given as goal

abbrev pub invariant-loop-k : goal.invariant-loop-k
invariant-loop-k l = l.weights.items ≡ l.fn.weights.items ++ flat_map (weight_at l.number l.owners l.multipliers) (range_with_len 0 l.k)
