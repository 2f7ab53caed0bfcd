use Rattle.std.proofs.Common.{◌≡◌, ◌≤◌, length, drop}
use Rattle.ror_text.specs.Cursor.{cursor_at}
use Rattle.ror_group.specs.Head.{desks_at}
use Rattle.ror_group.proofs.head.desks_at.Given as goal

abbrev pub invariant-names : goal.invariant-names
invariant-names l = record {
  within : l.next ≤ length l.bytes;
  reads : desks_at (drop l.name-index l.names) (cursor_at l.bytes l.next) ≡ desks_at l.names (cursor_at l.bytes l.from);
}
