use Rattle.std.proofs.Common.{take}
use Rattle.std.specs.List.{AllZip}
use Rattle.ror_show_ground.specs.Grounds.{ground_of}
use Rattle.ror_show_find_whatif.specs.declared.outcome.Asks.TheVariants.{Relation}
use Rattle.ror_show_find_whatif.specs.Findings.{IsWhatIf}
use Rattle.ror_show_find_whatif.proofs.relations.whatifs_at.Given as goal

abbrev pub invariant-loop-place : goal.invariant-loop-place
invariant-loop-place l = AllZip (IsWhatIf Relation (ground_of l.ground)) (take l.place-index l.places) l.found.items
