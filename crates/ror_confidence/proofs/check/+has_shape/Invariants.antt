use Rattle.std.proofs.Common.{length}
use Rattle.ror_confidence.proofs.check.+has_shape.Given as goal

abbrev pub decreases-has_shape : goal.decreases-has_shape
decreases-has_shape l = length l.dues.now
