use Rattle.std.proofs.Common.{take}
use Rattle.std.specs.List.{AllZip}
use Rattle.ror_show_find_whatif.specs.Cases.{IsCase}
use Rattle.ror_show_find_whatif.proofs.cases.find_cases.Given as goal

abbrev pub invariant-loop-place : goal.invariant-loop-place
invariant-loop-place l = AllZip (IsCase l.stood.table.now l.asks l.stood.list.now l.stood.answers.now) (take l.place l.stood.list.now) l.found.items
