use Rattle.std.proofs.Common.{◌≡◌, ◌++◌}
use Rattle.ror_show_sheet.specs.Pieces.{laid}
use Rattle.ror_show_sheet.specs.Sheet.{level_text}
use Rattle.ror_show_sheet.proofs.sheet.write_lower_levels.Given as goal

abbrev pub invariant-loop-rank : goal.invariant-loop-rank
invariant-loop-rank l = l.text.items ≡ l.fn.text.items ++ laid l.width (level_text l.table l.i) l.rank
