use Rattle.std.proofs.Common.{length}
use Rattle.ror_ranks.proofs.tree.+share.Given as goal

abbrev pub decreases-share : goal.decreases-share
decreases-share l = length l.members.now
