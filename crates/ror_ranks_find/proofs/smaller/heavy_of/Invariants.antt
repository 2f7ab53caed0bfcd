use Rattle.ror_ranks_find.specs.Search.{AreAmong}
use Rattle.ror_ranks_find.proofs.smaller.heavy_of.Given as goal

abbrev pub invariant-loop-place : goal.invariant-loop-place
invariant-loop-place l = AreAmong l.members l.heavy.items
