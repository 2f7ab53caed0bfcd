use Rattle.std.proofs.Common.{◌≡◌, ◌+◌, ◌≤◌, length}
use Rattle.ror_text.specs.Lines.{numbered_lines_from}
use Rattle.ror_text.proofs.lines.next_line.Given as goal

abbrev pub invariant-lines : goal.invariant-lines
invariant-lines l = (numbered_lines_from l.first l.bytes ≡ numbered_lines_from l.number l.left) × (l.number + length l.left ≤ l.first + length l.bytes) × (length l.left ≤ length l.bytes)

abbrev pub decreases-lines : goal.decreases-lines
decreases-lines l = length l.left
