use Rattle.std.proofs.Common.{◌≡◌, map}
use Rattle.std.specs.List.{range_with_len}
use Rattle.ror_show_find_relation.specs.Dominance.{dominated_by}
use Rattle.ror_show_find_relation.proofs.dominance.dominance.Given as goal

abbrev pub invariant-loop-a : goal.invariant-loop-a
invariant-loop-a l = l.rows.items ≡ map (dominated_by l.table) (range_with_len 0 l.a)
