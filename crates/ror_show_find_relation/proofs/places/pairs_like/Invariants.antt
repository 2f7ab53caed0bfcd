use Rattle.std.proofs.Common.{◌≡◌, ◌*◌, ◌≤◌}
use Rattle.ror_show_find_relation.specs.Rows.{pairs_like}
use Rattle.ror_show_find_relation.proofs.places.pairs_like.Given as goal

abbrev pub invariant-loop-a : goal.invariant-loop-a
invariant-loop-a l = record { counted : l.count ≡ pairs_like l.cell l.rows l.a; few : l.count ≤ 200 * l.a }
