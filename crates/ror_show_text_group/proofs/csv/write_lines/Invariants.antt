use Rattle.std.proofs.Common.{◌≡◌, ◌++◌}
use Rattle.std.specs.List.{flat_map, range_with_len}
use Rattle.ror_show_text_group.specs.Csv.{csv_lines}
use Rattle.ror_show_text_group.proofs.csv.write_lines.Given as goal

abbrev pub invariant-loop-a : goal.invariant-loop-a
invariant-loop-a l = l.text.items ≡ l.fn.text.items ++ flat_map (csv_lines l.table l.found) (range_with_len 0 l.a)
