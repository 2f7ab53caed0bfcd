use Rattle.std.proofs.Common.{◌≡◌, drop}
use Rattle.std.specs.Prelude.{◌==◌}
use Rattle.std.specs.List.{find}
use Rattle.ror_table.specs.Table.{rank_of, performances_on}
use Rattle.ror_table.proofs.table.Table.level.Given as goal

abbrev pub invariant-loop-a : goal.invariant-loop-a
invariant-loop-a l = find (λ p. rank_of l.self l.fn.i p == l.fn.r) (drop l.a (performances_on l.self l.fn.i)) ≡ find (λ p. rank_of l.self l.fn.i p == l.fn.r) (performances_on l.self l.fn.i)
