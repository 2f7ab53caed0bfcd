use Rattle.std.proofs.Common.{◌≡◌, ◌+◌, ◌≤◌, length}
use Rattle.std.specs.Str.Lines.{lines}
use Rattle.ror_confidence.proofs.read.count_lines.Given as goal

abbrev pub invariant-lines : goal.invariant-lines
invariant-lines l = (l.count + length (lines l.rest) ≡ length (lines l.bytes)) × (l.count + length l.rest ≤ length l.bytes)

abbrev pub decreases-lines : goal.decreases-lines
decreases-lines l = length l.rest
