use Rattle.std.proofs.Common.{◌+◌, unsigned_abs}
use Rattle.ror_fraction.proofs.ratio.+compare_ratios.Given as goal

abbrev pub decreases-compare_ratios : goal.decreases-compare_ratios
decreases-compare_ratios g l = unsigned_abs (g.W.Word.value l.p) + unsigned_abs (g.W.Word.value l.q)
