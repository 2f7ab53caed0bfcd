use Rattle.std.proofs.Common.{take}
use Rattle.std.specs.List.{AllByRecursion, AllZip}
use Rattle.ror_show_ground.specs.Grounds.{ground_of}
use Rattle.ror_show_find_proofs.specs.Findings.{AreFunctionsAt, AreOfTable}
use Rattle.ror_show_find_proofs.proofs.findings.find_at.Given as goal

abbrev pub invariant-places : goal.invariant-places
invariant-places l =
    AllZip (AreFunctionsAt (ground_of l.ground)) (take l.place-index l.places) l.made.items
    × AllByRecursion (AreOfTable l.ground.table.now) l.made.items
