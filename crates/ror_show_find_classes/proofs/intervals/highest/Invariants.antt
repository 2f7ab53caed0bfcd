use Rattle.std.proofs.Common.{◌≡◌}
use Rattle.ror_show_find_classes.specs.Intervals.{highest}
use Rattle.ror_show_find_classes.proofs.intervals.highest.Given as goal

abbrev pub invariant-loop-h : goal.invariant-loop-h
invariant-loop-h l = l.found ≡ highest l.answers l.h
