use Rattle.std.proofs.Common.{take}
use Rattle.ror_show_find_classes.specs.ClassChanges.{AreClassChanges}
use Rattle.ror_show_find_classes.proofs.changes.changes_at.Given as goal

abbrev pub invariant-loop-turn : goal.invariant-loop-turn
invariant-loop-turn l = AreClassChanges l.times (take l.turn-index l.turns) l.found.items
