use Rattle.std.proofs.Common.{take}
use Rattle.std.specs.List.{AllZip}
use Rattle.ror_show_ground.specs.Grounds.{ground_of}
use Rattle.ror_show_find_reasons.specs.Pairs.{IsRelationFound}
use Rattle.ror_show_find_reasons.proofs.relations.relations_at.Given as goal

abbrev pub invariant-loop-place : goal.invariant-loop-place
invariant-loop-place l = AllZip (IsRelationFound l.sought (ground_of l.ground)) (take l.place-index l.places) l.found.items
