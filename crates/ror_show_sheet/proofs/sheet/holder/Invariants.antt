use Rattle.std.proofs.Common.{◌≡◌}
use Rattle.ror_show_sheet.specs.Sheet.{holder}
use Rattle.ror_show_sheet.proofs.sheet.holder.Given as goal

abbrev pub invariant-loop-a : goal.invariant-loop-a
invariant-loop-a l = l.held ≡ holder l.table l.i l.rank l.a
