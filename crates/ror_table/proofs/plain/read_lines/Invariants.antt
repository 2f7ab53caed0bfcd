use Rattle.std.proofs.Common.{◌≡◌, ◌+◌, ◌≤◌, length}
use Rattle.ror_text.specs.Lines.{numbered_lines_from}
use Rattle.ror_text.specs.Reading.{read_all}
use Rattle.ror_table.specs.Plain.{body_line}
use Rattle.ror_table.proofs.plain.read_lines.Given as goal

abbrev pub invariant-lines : goal.invariant-lines
invariant-lines l = (read_all (body_line l.version) l.draft (numbered_lines_from l.number l.left) ≡ read_all (body_line l.version) l.fn.draft (numbered_lines_from l.first l.bytes)) × (l.number + length l.left ≤ l.first + length l.bytes)

abbrev pub decreases-lines : goal.decreases-lines
decreases-lines l = length l.left
