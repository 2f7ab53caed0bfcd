use Rattle.std.proofs.Common.{◌≡◌, ◌≤◌, ◌+◌, ◌-◌, length}
use Rattle.ror_text.specs.Cursor.{cursor_at}
use Rattle.ror_proof.specs.Reading.{part_lines}
use Rattle.ror_proof.proofs.Loops.{with_front}
use Rattle.ror_proof.proofs.read.part_lines.Given as goal

abbrev pub invariant-parts : goal.invariant-parts
invariant-parts l = record {
  onward : l.from ≤ l.next;
  within : l.next ≤ length l.bytes;
  room : length l.parts.items + (length l.bytes - l.next) ≤ length l.bytes - l.from;
  reads : with_front l.parts.items (part_lines (length l.bytes - l.from - length l.parts.items) (cursor_at l.bytes l.next)) ≡ part_lines (length l.bytes - l.from) (cursor_at l.bytes l.from);
}

abbrev pub decreases-parts : goal.decreases-parts
decreases-parts l = length l.bytes - l.next
