use Rattle.std.proofs.Common.{length}
use Rattle.ror_confidence.proofs.levels.+level_in.Given as goal

abbrev pub decreases-level_in : goal.decreases-level_in
decreases-level_in l = length l.put.now
