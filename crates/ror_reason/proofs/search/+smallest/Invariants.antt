use Rattle.std.proofs.Common.{length}
use Rattle.ror_reason.proofs.search.+smallest.Given as goal

abbrev pub decreases-smallest : goal.decreases-smallest
decreases-smallest l = length l.part.numbers.items
