use Rattle.std.proofs.Common.{length}
use Rattle.ror_ranks.proofs.check.+are_due.Given as goal

abbrev pub decreases-are_due : goal.decreases-are_due
decreases-are_due l = length l.extremes.now
