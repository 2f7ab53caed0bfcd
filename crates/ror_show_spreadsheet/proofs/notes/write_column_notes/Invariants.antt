use Rattle.std.proofs.Common.{◌≡◌, ◌-◌, ◌++◌, length}
use Rattle.std.specs.List.{flat_map, range_with_len}
use Rattle.ror_text.specs.Lines.{word_at}
use Rattle.ror_show_spreadsheet.specs.Notes.{column_note}
use Rattle.ror_show_spreadsheet.proofs.notes.write_column_notes.Given as goal

abbrev pub invariant-loop-place : goal.invariant-loop-place
invariant-loop-place l = l.text.items ++ flat_map (λ place. column_note place (word_at l.head place)) (range_with_len l.place (length l.head - l.place))
    ≡ l.initial.text.items ++ flat_map (λ place. column_note place (word_at l.head place)) (range_with_len 1 (length l.head - 1))
