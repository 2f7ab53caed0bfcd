use Rattle.std.proofs.Common.{◌≡◌, ◌+◌, ◌-◌, ◌≤◌, length, All}
use Rattle.std.specs.List.{range_with_len}
use Rattle.ror_text.specs.Reading.{read_all}
use Rattle.ror_table.specs.Amounts.{IsAmount}
use Rattle.ror_show_spreadsheet.specs.Import.{no_numbers, number_at, numbers_with}
use Rattle.ror_show_spreadsheet.proofs.lines.numbers_of.Given as goal

abbrev pub invariant-loop-place : goal.invariant-loop-place
invariant-loop-place l = record {
  same : read_all (number_at l.numerals l.number l.row) (numbers_with l.numbers) (range_with_len l.place (length l.row - l.place))
      ≡ read_all (number_at l.numerals l.number l.row) no_numbers (range_with_len 1 (length l.row - 1));
  low : l.place ≤ length l.row + 1;
  within : 1 ≤ length l.row → l.place ≤ length l.row;
  count : length l.numbers.amounts.items + 1 ≡ l.place;
  amounts : All IsAmount l.numbers.amounts.items;
}
