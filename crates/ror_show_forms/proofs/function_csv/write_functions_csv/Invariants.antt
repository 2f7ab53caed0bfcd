use Rattle.std.proofs.Common.{◌≡◌, ◌++◌, take}
use Rattle.std.specs.List.{flat_map}
use Rattle.ror_show_ground.specs.Grounds.{ground_of}
use Rattle.ror_show_forms.specs.FunctionCsv.{function_values}
use Rattle.ror_show_forms.proofs.function_csv.write_functions_csv.Given as goal

abbrev pub invariant-lines : goal.invariant-lines
invariant-lines l = l.text.items ≡ l.initial.text.items ++ flat_map (function_values (ground_of l.ground)) (take l.functions-index l.found)
