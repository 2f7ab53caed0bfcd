use Rattle.std.proofs.Common.{◌≡◌, ◌*◌, ◌≤◌}
use Rattle.ror_show_find_relation.specs.Relations.{decided_among}
use Rattle.ror_show_find_relation.proofs.counting.decided_pairs.Given as goal

abbrev pub invariant-loop-a : goal.invariant-loop-a
invariant-loop-a l = record { counted : l.count ≡ decided_among l.relation l.a; few : l.count ≤ 200 * l.a }
