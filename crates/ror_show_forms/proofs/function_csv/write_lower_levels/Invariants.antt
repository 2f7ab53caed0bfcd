use Rattle.std.proofs.Common.{◌≡◌, ◌++◌}
use Rattle.std.specs.List.{flat_map, range_with_len}
use Rattle.ror_show_forms.specs.FunctionCsv.{csv_level}
use Rattle.ror_show_forms.proofs.function_csv.write_lower_levels.Given as goal

abbrev pub invariant-loop-r : goal.invariant-loop-r
invariant-loop-r l = l.text.items ≡ l.fn.text.items ++ flat_map (csv_level l.table l.function l.front l.fn.i) (range_with_len 0 l.r)
