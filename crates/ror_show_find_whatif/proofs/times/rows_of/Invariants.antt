use Rattle.std.proofs.Common.{take}
use Rattle.std.specs.List.{AllZip}
use Rattle.ror_show_ground.specs.Grounds.{ground_of}
use Rattle.ror_show_find_whatif.specs.Findings.{IsRowWhatIf}
use Rattle.ror_show_find_whatif.proofs.times.rows_of.Given as goal

abbrev pub invariant-loop-row : goal.invariant-loop-row
invariant-loop-row l = AllZip (IsRowWhatIf (ground_of l.ground)) (take l.row-index l.rows) l.made.items
