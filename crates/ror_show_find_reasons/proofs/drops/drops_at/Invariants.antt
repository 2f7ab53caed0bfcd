use Rattle.std.proofs.Common.{take}
use Rattle.std.specs.List.{AllZip}
use Rattle.ror_check.specs.Repair.{numbers_of}
use Rattle.ror_show_find_reasons.specs.Lines.{IsDropAt}
use Rattle.ror_show_find_reasons.proofs.drops.drops_at.Given as goal

abbrev pub invariant-loop-place : goal.invariant-loop-place
invariant-loop-place l = AllZip (IsDropAt l.stood.table.now l.stood.list.now (numbers_of l.dropped)) (take l.place-index l.places) l.found.items
