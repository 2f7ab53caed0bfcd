use Rattle.ror_ranks_find.specs.Search.{IsPacking}
use Rattle.ror_ranks_find.proofs.packing.Packing.take_known.Given as goal

abbrev pub invariant-loop-taken : goal.invariant-loop-taken
invariant-loop-taken l = IsPacking l.conflicts l.set l.goal l.self
