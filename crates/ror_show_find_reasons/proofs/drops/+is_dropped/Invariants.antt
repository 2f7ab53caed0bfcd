use Rattle.std.proofs.Common.{length}
use Rattle.ror_show_find_reasons.proofs.drops.+is_dropped.Given as goal

abbrev pub decreases-is_dropped : goal.decreases-is_dropped
decreases-is_dropped l = length l.dropped.now
