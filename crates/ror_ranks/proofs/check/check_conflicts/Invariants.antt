use Rattle.std.proofs.Common.{take}
use Rattle.std.specs.List.{AllByRecursion}
use Rattle.ror_ranks.specs.Conflicts.{IsProvedConflict}
use Rattle.ror_ranks.proofs.check.check_conflicts.Given as goal

abbrev pub invariant-loop-place : goal.invariant-loop-place
invariant-loop-place l = AllByRecursion (IsProvedConflict l.asked.table.now l.asked.base.now l.asked.side l.asked.alternative) (take l.place l.conflicts)
