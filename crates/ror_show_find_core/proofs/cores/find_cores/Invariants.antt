use Rattle.std.proofs.Common.{take}
use Rattle.std.specs.List.{AllZip}
use Rattle.ror_show_ground.specs.Grounds.{ground_of}
use Rattle.ror_show_find_core.specs.Cores.{AreLineCores}
use Rattle.ror_show_find_core.proofs.cores.find_cores.Given as goal

abbrev pub invariant-lines : goal.invariant-lines
invariant-lines l = AllZip (AreLineCores (ground_of l.ground)) (take l.k l.lines) l.found.items
