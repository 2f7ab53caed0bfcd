use Rattle.std.proofs.Common.{◌≡◌, ◌≤◌}
use Rattle.ror_show_find_relation.specs.Relations.{is_decided, count_below}
use Rattle.ror_show_find_relation.proofs.counting.decided_before.Given as goal

abbrev pub invariant-loop-b : goal.invariant-loop-b
invariant-loop-b l = record { counted : l.count ≡ count_below (is_decided l.relation l.a) l.b; few : l.count ≤ l.b }
