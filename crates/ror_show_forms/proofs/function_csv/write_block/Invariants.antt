use Rattle.std.proofs.Common.{◌≡◌, ◌++◌}
use Rattle.std.specs.List.{flat_map, range_with_len}
use Rattle.ror_show_forms.specs.FunctionCsv.{csv_levels}
use Rattle.ror_show_forms.proofs.function_csv.write_block.Given as goal

abbrev pub invariant-loop-i : goal.invariant-loop-i
invariant-loop-i l = l.text.items ≡ l.fn.text.items ++ flat_map (csv_levels l.table l.function l.front) (range_with_len 0 l.i)
