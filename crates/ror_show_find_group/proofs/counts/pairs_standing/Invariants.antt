use Rattle.std.proofs.Common.{◌≡◌, ◌*◌, ◌≤◌}
use Rattle.ror_show_find_group.specs.Counts.{pairs_standing}
use Rattle.ror_show_find_group.proofs.counts.pairs_standing.Given as goal

abbrev pub invariant-loop-a : goal.invariant-loop-a
invariant-loop-a l = record { counted : l.count ≡ pairs_standing l.stand l.rows l.a; few : l.count ≤ 200 * l.a }
