use Rattle.std.proofs.Common.{◌≡◌, ◌+◌, drop, length}
use Rattle.std.specs.List.{enumerate_from}
use Rattle.ror_text.specs.Reading.{read_all}
use Rattle.ror_show_spreadsheet.specs.Import.{reading_with, row_step}
use Rattle.ror_show_spreadsheet.proofs.lines.read_rows.Given as goal

abbrev pub invariant-loop-place : goal.invariant-loop-place
invariant-loop-place l = record {
  same : read_all (row_step l.layout) (reading_with l.reading) (enumerate_from l.place (drop l.place l.rows))
      ≡ read_all (row_step l.layout) (reading_with l.initial.reading) (enumerate_from 0 l.rows);
  number : length l.reading.draft.criteria + 1 ≡ l.layout.width;
}
