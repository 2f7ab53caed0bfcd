use Rattle.std.proofs.Common.{◌≤◌}
use Rattle.ror_pivot.specs.Answers.{most_of}
use Rattle.ror_repair.proofs.Walking.{IsWalked}
use Rattle.ror_repair.proofs.repairing.repair_counted.Given as goal

abbrev pub invariant-loop-numbered : goal.invariant-loop-numbered
invariant-loop-numbered l =
    IsWalked (most_of l.bits) l.table l.standing l.numbered-index l.dropped.items l.base l.kept.items
    × (l.fn.pivots ≤ l.pivots)
