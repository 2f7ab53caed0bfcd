use Rattle.std.proofs.Common.{◌≡◌, ◌++◌}
use Rattle.std.specs.List.{flat_map, range_with_len}
use Rattle.ror_show_text_functions.specs.Rises.{step_rise}
use Rattle.ror_show_text_functions.proofs.rises.write_step_rises.Given as goal

abbrev pub invariant-loop-r : goal.invariant-loop-r
invariant-loop-r l = l.text.items ≡ l.fn.text.items ++ flat_map (step_rise l.table l.function l.fn.i) (range_with_len 0 l.r)
