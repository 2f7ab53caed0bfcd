use Rattle.std.proofs.Common.{◌≡◌, ◌++◌}
use Rattle.ror_show_sheet.specs.Pieces.{pieces}
use Rattle.ror_show_sheet.specs.Sheet.{criterion_text}
use Rattle.ror_show_sheet.proofs.sheet.write_all_criteria.Given as goal

abbrev pub invariant-loop-i : goal.invariant-loop-i
invariant-loop-i l = l.text.items ≡ l.fn.text.items ++ pieces (criterion_text l.table) l.i
