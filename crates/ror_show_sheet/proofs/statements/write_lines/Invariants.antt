use Rattle.std.proofs.Common.{◌≡◌, ◌++◌}
use Rattle.ror_show_sheet.specs.Pieces.{pieces}
use Rattle.ror_show_sheet.specs.Sheet.{statement_line}
use Rattle.ror_show_sheet.proofs.statements.write_lines.Given as goal

abbrev pub invariant-loop-place : goal.invariant-loop-place
invariant-loop-place l = l.text.items ≡ l.fn.text.items ++ pieces (statement_line l.table l.list) l.place
