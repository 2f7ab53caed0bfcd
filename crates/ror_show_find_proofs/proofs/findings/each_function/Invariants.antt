use Rattle.std.proofs.Common.{◌≡◌, take}
use Rattle.std.specs.List.{AllByRecursion}
use Rattle.ror_show_find_proofs.specs.Findings.{each_function, IsOfTable}
use Rattle.ror_show_find_proofs.proofs.findings.each_function.Given as goal

abbrev pub invariant-places : goal.invariant-places
invariant-places l =
    (l.made.items ≡ each_function l.table l.answers (take l.place-index l.places))
    × AllByRecursion (IsOfTable l.table) l.made.items
