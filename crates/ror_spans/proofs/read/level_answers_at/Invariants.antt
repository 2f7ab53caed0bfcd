use Rattle.std.proofs.Common.{◌≡◌, ◌≤◌, ◌+◌, ◌-◌, length}
use Rattle.ror_text.specs.Cursor.{cursor_at}
use Rattle.ror_proof.proofs.Loops.{with_front}
use Rattle.ror_spans.specs.Reading.{level_answers_at}
use Rattle.ror_spans.proofs.read.level_answers_at.Given as goal

abbrev pub invariant-answers : goal.invariant-answers
invariant-answers l = record {
  onward : l.from ≤ l.next;
  within : l.next ≤ length l.bytes;
  room : length l.answers.items + (length l.bytes - l.next) ≤ length l.bytes - l.from;
  reads : with_front l.answers.items (level_answers_at l.table (length l.bytes - l.from - length l.answers.items) (cursor_at l.bytes l.next)) ≡ level_answers_at l.table (length l.bytes - l.from) (cursor_at l.bytes l.from);
}

abbrev pub decreases-answers : goal.decreases-answers
decreases-answers l = length l.bytes - l.next
