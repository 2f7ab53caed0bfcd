use Rattle.std.proofs.Common.{◌≡◌, ◌++◌}
use Rattle.std.specs.List.{flat_map, range_with_len}
use Rattle.ror_show_text_functions.specs.Rises.{rises_on}
use Rattle.ror_show_text_functions.proofs.rises.write_all_rises.Given as goal

abbrev pub invariant-loop-i : goal.invariant-loop-i
invariant-loop-i l = l.text.items ≡ l.fn.text.items ++ flat_map (rises_on l.table l.function) (range_with_len 0 l.i)
