use Rattle.std.proofs.Common.{◌≡◌}
use Rattle.ror_show_find_classes.specs.Findings.{assigned_of}
use Rattle.ror_show_find_classes.proofs.findings.assigned_of.Given as goal

abbrev pub invariant-loop-h : goal.invariant-loop-h
invariant-loop-h l = l.made.items ≡ assigned_of l.h l.line
