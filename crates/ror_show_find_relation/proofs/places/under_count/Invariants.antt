use Rattle.std.proofs.Common.{◌≡◌, ◌≤◌}
use Rattle.ror_show_find_relation.specs.Relations.{count_below}
use Rattle.ror_show_find_relation.specs.Rows.{is_under_at}
use Rattle.ror_show_find_relation.proofs.places.under_count.Given as goal

abbrev pub invariant-loop-b : goal.invariant-loop-b
invariant-loop-b l = record { counted : l.count ≡ count_below (is_under_at l.rows l.a) l.b; few : l.count ≤ l.b }
