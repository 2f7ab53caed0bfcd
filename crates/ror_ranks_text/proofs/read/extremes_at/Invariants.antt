use Rattle.std.proofs.Common.{◌≡◌, ◌≤◌, ◌-◌, length}
use Rattle.ror_text.specs.Cursor.{cursor_at}
use Rattle.ror_proof.proofs.Loops.{with_front}
use Rattle.ror_ranks_text.specs.Reading.{so_many, extreme_at}
use Rattle.ror_ranks_text.proofs.read.extremes_at.Given as goal

abbrev pub invariant-extremes : goal.invariant-extremes
invariant-extremes l = record {
  onward : l.from ≤ l.next;
  within : l.next ≤ length l.bytes;
  reads : with_front l.extremes.items (so_many (extreme_at l.table) (l.count - l.counter) (cursor_at l.bytes l.next)) ≡ so_many (extreme_at l.table) l.count (cursor_at l.bytes l.from);
}
