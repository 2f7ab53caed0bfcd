use Rattle.std.proofs.Common.{◌≡◌, length}
use Rattle.std.specs.Str.Lines.{lines}
use Rattle.ror_show_hints.specs.Hints.{first_said}
use Rattle.ror_show_hints.proofs.first_bytes.first_line_of.Given as goal

abbrev pub invariant-lines : goal.invariant-lines
invariant-lines l = first_said (lines l.rest) ≡ first_said (lines l.bytes)

abbrev pub decreases-lines : goal.decreases-lines
decreases-lines l = length l.rest
