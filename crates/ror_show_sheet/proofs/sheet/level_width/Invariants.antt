use Rattle.std.proofs.Common.{◌≡◌}
use Rattle.ror_show_sheet.specs.Pieces.{widest}
use Rattle.ror_show_sheet.specs.Sheet.{performance_text}
use Rattle.ror_show_sheet.proofs.sheet.level_width.Given as goal

abbrev pub invariant-loop-a : goal.invariant-loop-a
invariant-loop-a l = l.widest ≡ widest (performance_text l.table l.i) l.a
