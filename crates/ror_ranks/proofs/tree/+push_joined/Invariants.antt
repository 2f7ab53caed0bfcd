use Rattle.std.proofs.Common.{length}
use Rattle.ror_ranks.proofs.tree.+push_joined.Given as goal

abbrev pub decreases-push_joined : goal.decreases-push_joined
decreases-push_joined l = length l.members.now
