use Rattle.std.proofs.Common.{◌≡◌, ◌≤◌}
use Rattle.ror_show_find_relation.specs.Relations.{count_below}
use Rattle.ror_show_find_relation.specs.Rows.{is_like}
use Rattle.ror_show_find_relation.proofs.places.like_before.Given as goal

abbrev pub invariant-loop-b : goal.invariant-loop-b
invariant-loop-b l = record { counted : l.count ≡ count_below (is_like l.cell l.rows l.a) l.b; few : l.count ≤ l.b }
