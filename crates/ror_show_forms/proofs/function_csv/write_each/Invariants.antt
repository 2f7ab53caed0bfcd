use Rattle.std.proofs.Common.{◌≡◌, ◌++◌, take}
use Rattle.std.specs.List.{flat_map}
use Rattle.ror_show_forms.specs.FunctionCsv.{function_value}
use Rattle.ror_show_forms.proofs.function_csv.write_each.Given as goal

abbrev pub invariant-functions : goal.invariant-functions
invariant-functions l = l.text.items ≡ l.initial.text.items ++ flat_map (function_value l.table l.answers l.head) (take l.function-index l.found)
