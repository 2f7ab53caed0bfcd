use Rattle.std.proofs.Common.{◌≡◌, ◌≤◌, ◌-◌, length}
use Rattle.ror_text.specs.Cursor.{cursor_at}
use Rattle.ror_proof.proofs.Loops.{with_front}
use Rattle.ror_ranks_text.specs.Reading.{so_many, conflict_at}
use Rattle.ror_ranks_text.proofs.intervals.conflicts_at.Given as goal

abbrev pub invariant-conflicts : goal.invariant-conflicts
invariant-conflicts l = record {
  onward : l.from ≤ l.next;
  within : l.next ≤ length l.bytes;
  reads : with_front l.conflicts.items (so_many (conflict_at l.table) (l.count - l.counter) (cursor_at l.bytes l.next)) ≡ so_many (conflict_at l.table) l.count (cursor_at l.bytes l.from);
}
