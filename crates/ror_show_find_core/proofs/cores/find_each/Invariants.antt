use Rattle.std.proofs.Common.{take}
use Rattle.std.specs.List.{AllZip}
use Rattle.ror_show_find_core.specs.Cores.{IsCoreAt}
use Rattle.ror_show_find_core.proofs.cores.find_each.Given as goal

abbrev pub invariant-told : goal.invariant-told
invariant-told l = AllZip (IsCoreAt l.stood.table.now l.stood.list.now l.stood.answers.now) (take l.k l.told) l.found.items
