use Rattle.std.proofs.Common.{◌≡◌, ◌≤◌, ◌-◌, length}
use Rattle.ror_text.specs.Cursor.{cursor_at}
use Rattle.ror_proof.specs.Reading.{dropped_lines}
use Rattle.ror_proof.proofs.Loops.{with_front}
use Rattle.ror_proof.proofs.read.dropped_lines.Given as goal

abbrev pub invariant-dropped : goal.invariant-dropped
invariant-dropped l = record {
  onward : l.from ≤ l.next;
  within : l.next ≤ length l.bytes;
  reads : with_front l.dropped.items (dropped_lines (l.count - l.counter) (cursor_at l.bytes l.next)) ≡ dropped_lines l.count (cursor_at l.bytes l.from);
}
