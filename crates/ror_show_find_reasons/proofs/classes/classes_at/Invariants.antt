use Rattle.std.proofs.Common.{take}
use Rattle.ror_show_ground.specs.Grounds.{ground_of}
use Rattle.ror_show_find_reasons.specs.Bounds.{AreClassesAt}
use Rattle.ror_show_find_reasons.proofs.classes.classes_at.Given as goal

abbrev pub invariant-loop-place : goal.invariant-loop-place
invariant-loop-place l = AreClassesAt l.sought (ground_of l.ground) (take l.place-index l.starts) l.found.items
