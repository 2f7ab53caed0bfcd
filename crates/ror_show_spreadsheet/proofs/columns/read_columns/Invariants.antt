use Rattle.std.proofs.Common.{◌≡◌, ◌+◌, ◌-◌, ◌≤◌, [], length}
use Rattle.std.specs.List.{range_with_len}
use Rattle.std.specs.Option.{option_map}
use Rattle.ror_text.specs.Reading.{read_all}
use Rattle.ror_show_spreadsheet.specs.Import.{begun, column_at, reading_with}
use Rattle.ror_show_spreadsheet.specs.Options.{options_with}
use Rattle.ror_show_spreadsheet.proofs.columns.read_columns.Given as goal

abbrev pub invariant-loop-place : goal.invariant-loop-place
invariant-loop-place l = record {
  same : read_all (column_at (options_with l.options) l.head (option_map (λ row. row.now) l.words)) (reading_with l.reading) (range_with_len l.place (length l.head - l.place))
      ≡ read_all (column_at (options_with l.options) l.head (option_map (λ row. row.now) l.words)) begun (range_with_len 1 (length l.head - 1));
  first : l.reading.draft.alternatives ≡ [];
  within : l.place ≤ length l.head;
  number : length l.reading.draft.criteria + 1 ≡ l.place;
}
