use Rattle.ror_check.proofs.RepairWalk.{Walked}
use Rattle.ror_check.proofs.repair.check_dropped.Given as goal

abbrev pub invariant-loop-numbered : goal.invariant-loop-numbered
invariant-loop-numbered l = Walked l.table l.standing l.dropped l.numbered-index l.place l.kept.items
