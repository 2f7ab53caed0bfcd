use Rattle.std.proofs.Common.{◌≡◌, ◌+◌, ◌<◌, ◌^◌, [], length}
use Rattle.ror_text.specs.Lines.{numbered_lines_from}
use Rattle.ror_text.specs.Reading.{read_all}
use Rattle.ror_confidence.specs.Reading.{add_line}
use Rattle.ror_confidence.proofs.read.read_placements.Given as goal

abbrev pub invariant-lines : goal.invariant-lines
invariant-lines l = record {
  same : read_all (add_line l.standing) (record { count = l.count; put = l.put.items }) (numbered_lines_from l.number l.rest) ≡ read_all (add_line l.standing) (record { count = l.count; put = [] }) (numbered_lines_from l.first l.bytes);
  small : l.number + length l.rest < 2 ^ 32;
}

abbrev pub decreases-lines : goal.decreases-lines
decreases-lines l = length l.rest
