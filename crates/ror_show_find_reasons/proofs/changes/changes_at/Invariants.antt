use Rattle.std.proofs.Common.{take}
use Rattle.ror_show_ground.specs.Grounds.{ground_of}
use Rattle.ror_show_find_reasons.specs.Pairs.{AreChangesAt}
use Rattle.ror_show_find_reasons.proofs.changes.changes_at.Given as goal

abbrev pub invariant-loop-turn : goal.invariant-loop-turn
invariant-loop-turn l = AreChangesAt l.sought (ground_of l.ground) (take l.turn-index l.turns) l.found.items
