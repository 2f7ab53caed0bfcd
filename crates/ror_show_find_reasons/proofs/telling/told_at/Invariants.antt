use Rattle.std.proofs.Common.{take}
use Rattle.std.specs.List.{AllZip}
use Rattle.ror_show_find_reasons.specs.Lines.{IsToldAt}
use Rattle.ror_show_find_reasons.proofs.telling.told_at.Given as goal

abbrev pub invariant-loop-place : goal.invariant-loop-place
invariant-loop-place l = AllZip (IsToldAt l.stood.table.now l.stood.list.now l.stood.answers.now) (take l.place-index l.places) l.found.items
