use Rattle.std.proofs.Common.{◌≡◌, ◌-◌, [], length, All}
use Rattle.std.specs.List.{range_with_len}
use Rattle.ror_text.specs.Reading.{read_all}
use Rattle.ror_table.specs.Amounts.{IsAmount}
use Rattle.ror_xmcda.specs.Whole.{next_performance}
use Rattle.ror_xmcda.proofs.whole.row_of.Given as goal

abbrev pub invariant-loop-i : goal.invariant-loop-i
invariant-loop-i l = record {
  same : read_all (next_performance l.given l.a) l.row.items (range_with_len l.i (l.criteria - l.i)) ≡ read_all (next_performance l.given l.a) [] (range_with_len 0 l.criteria);
  number : length l.row.items ≡ l.i;
  amounts : All IsAmount l.row.items;
}
