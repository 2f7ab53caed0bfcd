use Rattle.std.proofs.Common.{◌≡◌, ◌≤◌}
use Rattle.ror_show_find_relation.specs.Relations.{count_below}
use Rattle.ror_show_find_group.specs.Counts.{stands}
use Rattle.ror_show_find_group.proofs.counts.standing_before.Given as goal

abbrev pub invariant-loop-b : goal.invariant-loop-b
invariant-loop-b l = record { counted : l.count ≡ count_below (stands l.stand l.rows l.a) l.b; few : l.count ≤ l.b }
