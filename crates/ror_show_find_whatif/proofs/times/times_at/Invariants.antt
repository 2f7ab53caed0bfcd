use Rattle.std.proofs.Common.{take}
use Rattle.std.specs.List.{AllZip}
use Rattle.ror_show_ground.specs.Grounds.{ground_of}
use Rattle.ror_show_find_whatif.specs.Findings.{IsTimeWhatIf}
use Rattle.ror_show_find_whatif.proofs.times.times_at.Given as goal

abbrev pub invariant-loop-place : goal.invariant-loop-place
invariant-loop-place l = AllZip (IsTimeWhatIf (ground_of l.ground)) (take l.place-index l.starts) l.found.items
