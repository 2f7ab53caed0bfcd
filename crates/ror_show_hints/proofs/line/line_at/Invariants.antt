use Rattle.std.proofs.Common.{◌≡◌, ◌-◌, [], length}
use Rattle.std.specs.Prelude.{slice_index_or}
use Rattle.std.specs.Str.Lines.{lines}
use Rattle.ror_show_hints.proofs.line.line_at.Given as goal

abbrev pub invariant-lines : goal.invariant-lines
invariant-lines l = slice_index_or (lines l.rest) l.above [] ≡ slice_index_or (lines l.bytes) (l.number - 1) []

abbrev pub decreases-lines : goal.decreases-lines
decreases-lines l = length l.rest
