use Rattle.std.proofs.Common.{◌≡◌}
use Rattle.ror_show_find_classes.specs.Intervals.{is_whole}
use Rattle.ror_show_find_classes.proofs.intervals.is_whole.Given as goal

abbrev pub invariant-loop-h : goal.invariant-loop-h
invariant-loop-h l = l.whole ≡ is_whole l.answers l.h
