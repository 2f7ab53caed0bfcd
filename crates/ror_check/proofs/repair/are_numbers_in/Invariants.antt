use Rattle.ror_check.proofs.RepairWalk.{Matched}
use Rattle.ror_check.proofs.repair.are_numbers_in.Given as goal

abbrev pub invariant-loop-numbered : goal.invariant-loop-numbered
invariant-loop-numbered l = Matched l.standing l.dropped l.numbered-index l.place
