use Rattle.std.proofs.Common.{◌≡◌, ◌<◌, take, unsigned_abs, All}
use Rattle.ror_table.specs.declared.limits.TheConstants.{AMOUNT_LIMIT}
use Rattle.ror_table.specs.Index.{distances_of}
use Rattle.ror_table.proofs.weights.distances.Given as goal

abbrev pub invariant-loop-level : goal.invariant-loop-level
invariant-loop-level l = record {
  taken : l.distances.items ≡ take l.level-index (distances_of l.common l.levels);
  small : All (λ d. unsigned_abs d < AMOUNT_LIMIT) l.distances.items;
}
