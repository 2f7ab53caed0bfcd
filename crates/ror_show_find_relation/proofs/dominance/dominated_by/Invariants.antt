use Rattle.std.proofs.Common.{◌≡◌, map}
use Rattle.std.specs.List.{range_with_len}
use Rattle.ror_show_find_relation.specs.Dominance.{dominates}
use Rattle.ror_show_find_relation.proofs.dominance.dominated_by.Given as goal

abbrev pub invariant-loop-b : goal.invariant-loop-b
invariant-loop-b l = l.row.items ≡ map (dominates l.table l.a) (range_with_len 0 l.b)
