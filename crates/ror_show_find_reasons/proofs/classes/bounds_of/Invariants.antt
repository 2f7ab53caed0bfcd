use Rattle.std.proofs.Common.{take}
use Rattle.ror_show_ground.specs.Grounds.{ground_of}
use Rattle.ror_show_find_reasons.specs.Bounds.{AreRowBounds}
use Rattle.ror_show_find_reasons.proofs.classes.bounds_of.Given as goal

abbrev pub invariant-loop-row : goal.invariant-loop-row
invariant-loop-row l = AreRowBounds l.sought (ground_of l.ground) (take l.row-index l.rows) l.made.items
