use Rattle.std.proofs.Common.{take}
use Rattle.std.specs.List.{AllZip}
use Rattle.ror_show_ground.specs.Grounds.{ground_of}
use Rattle.ror_show_find_reasons.specs.Lines.{IsLineFound}
use Rattle.ror_show_find_reasons.proofs.lines.lines_at.Given as goal

abbrev pub invariant-loop-place : goal.invariant-loop-place
invariant-loop-place l = AllZip (IsLineFound l.meant (ground_of l.ground)) (take l.place-index l.places) l.found.items
