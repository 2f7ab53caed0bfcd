use Rattle.std.proofs.Common.{length}
use Rattle.ror_text.specs.Lines.{word_at}
use Rattle.ror_show_spreadsheet.specs.Notes.{column_note}
use Rattle.ror_show_spreadsheet.proofs.Loops.{piece_on}
use Rattle.ror_show_spreadsheet.proofs.notes.write_column_notes.Goals as goal

pub loop-place-preserved : goal.loop-place-preserved
loop-place-preserved c = piece_on (λ place. column_note place (word_at c.args.head.now place)) c.loop-place.place (length c.args.head.now) c.loop-place.text.items _ _ (rw c.width-place-end.ensures at c.loop-place-test.true) (rw c.cell.ensures at c.in_ok-write_column_note.ensures) c.loop-place.invariant
