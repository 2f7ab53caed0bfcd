use Rattle.std.proofs.Common.{◌≡◌, ◌≤◌, ◌-◌, length}
use Rattle.ror_text.specs.Cursor.{cursor_at}
use Rattle.ror_proof.proofs.Loops.{with_front}
use Rattle.ror_show_forms.specs.Reading.{answers_at}
use Rattle.ror_show_forms.proofs.read.answers_at.Given as goal

abbrev pub invariant-answers : goal.invariant-answers
invariant-answers l = record {
  onward : l.from ≤ l.next;
  within : l.next ≤ length l.bytes;
  reads : with_front l.answers.items (answers_at l.table (l.count - l.counter) (cursor_at l.bytes l.next)) ≡ answers_at l.table l.count (cursor_at l.bytes l.from);
}
