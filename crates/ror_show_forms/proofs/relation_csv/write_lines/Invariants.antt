use Rattle.std.proofs.Common.{◌≡◌, ◌++◌}
use Rattle.std.specs.List.{flat_map, range_with_len}
use Rattle.ror_show_forms.specs.RelationCsv.{csv_line}
use Rattle.ror_show_forms.proofs.relation_csv.write_lines.Given as goal

abbrev pub invariant-loop-b : goal.invariant-loop-b
invariant-loop-b l = l.text.items ≡ l.fn.text.items ++ flat_map (csv_line l.table l.front l.rows l.fn.a) (range_with_len 0 l.b)
