use Rattle.std.proofs.Common.{◌≡◌}
use Rattle.ror_show_find_classes.specs.Intervals.{is_contradictory}
use Rattle.ror_show_find_classes.proofs.intervals.is_contradictory.Given as goal

abbrev pub invariant-loop-h : goal.invariant-loop-h
invariant-loop-h l = l.found ≡ is_contradictory l.answers l.h
