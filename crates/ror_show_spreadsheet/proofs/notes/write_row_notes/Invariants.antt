use Rattle.std.proofs.Common.{◌≡◌, ◌++◌, drop}
use Rattle.std.specs.List.{enumerate_from, flat_map}
use Rattle.ror_show_spreadsheet.specs.Notes.{row_note}
use Rattle.ror_show_spreadsheet.proofs.notes.write_row_notes.Given as goal

abbrev pub invariant-loop-place : goal.invariant-loop-place
invariant-loop-place l = l.text.items ++ flat_map (row_note l.before) (enumerate_from l.place (drop l.place l.rows))
    ≡ l.initial.text.items ++ flat_map (row_note l.before) (enumerate_from 0 l.rows)
