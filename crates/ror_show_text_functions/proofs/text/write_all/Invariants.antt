use Rattle.std.proofs.Common.{◌≡◌, ◌++◌, take}
use Rattle.std.specs.List.{flat_map}
use Rattle.ror_show_text_functions.specs.Text.{function_words}
use Rattle.ror_show_text_functions.proofs.text.write_all.Given as goal

abbrev pub invariant-functions : goal.invariant-functions
invariant-functions l = l.text.items ≡ l.initial.text.items ++ flat_map (function_words l.table l.answers) (take l.function-index l.found)
