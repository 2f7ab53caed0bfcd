use Rattle.std.proofs.Common.{◌≡◌, ◌++◌}
use Rattle.std.specs.List.{flat_map, range_with_len}
use Rattle.ror_show_text_group.specs.Csv.{csv_line}
use Rattle.ror_show_text_group.proofs.csv.write_lines_from.Given as goal

abbrev pub invariant-loop-b : goal.invariant-loop-b
invariant-loop-b l = l.text.items ≡ l.fn.text.items ++ flat_map (csv_line l.table l.found l.fn.a) (range_with_len 0 l.b)
