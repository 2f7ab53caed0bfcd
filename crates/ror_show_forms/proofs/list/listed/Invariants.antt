use Rattle.std.proofs.Common.{◌≡◌, ◌≤◌, ◌+◌, ◌-◌, suc, length}
use Rattle.std.specs.Prelude.{None}
use Rattle.ror_text.specs.Cursor.{cursor_at}
use Rattle.ror_proof.proofs.Loops.{after_front}
use Rattle.ror_show_forms.specs.Listing.{listed_at}
use Rattle.ror_show_forms.proofs.list.listed.Given as goal

abbrev pub invariant-certificates : goal.invariant-certificates
invariant-certificates l = record {
  within : l.next ≤ length l.bytes;
  room : length l.certificates.items ≤ l.next;
  reads : after_front l.certificates.items (listed_at l.table l.bytes (suc (length l.bytes) - length l.certificates.items) (length l.certificates.items + 1) l.last (cursor_at l.bytes l.next)) ≡ listed_at l.table l.bytes (suc (length l.bytes)) 1 None (cursor_at l.bytes l.start);
}

abbrev pub decreases-certificates : goal.decreases-certificates
decreases-certificates l = length l.bytes - l.next
