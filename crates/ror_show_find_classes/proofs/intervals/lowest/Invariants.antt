use Rattle.std.proofs.Common.{◌≡◌}
use Rattle.ror_show_find_classes.specs.Intervals.{lowest}
use Rattle.ror_show_find_classes.proofs.intervals.lowest.Given as goal

abbrev pub invariant-loop-h : goal.invariant-loop-h
invariant-loop-h l = l.found ≡ lowest l.answers l.h
