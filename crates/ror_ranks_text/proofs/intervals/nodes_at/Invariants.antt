use Rattle.std.proofs.Common.{◌≡◌, ◌≤◌, ◌-◌, length}
use Rattle.ror_text.specs.Cursor.{cursor_at}
use Rattle.ror_proof.proofs.Loops.{with_front}
use Rattle.ror_ranks_text.specs.Reading.{so_many, node_line}
use Rattle.ror_ranks_text.proofs.intervals.nodes_at.Given as goal

abbrev pub invariant-nodes : goal.invariant-nodes
invariant-nodes l = record {
  onward : l.from ≤ l.next;
  within : l.next ≤ length l.bytes;
  reads : with_front l.nodes.items (so_many node_line (l.count - l.counter) (cursor_at l.bytes l.next)) ≡ so_many node_line l.count (cursor_at l.bytes l.from);
}
