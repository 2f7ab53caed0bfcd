use Rattle.std.proofs.Common.{◌≡◌, ◌++◌}
use Rattle.std.specs.List.{flat_map, range_with_len}
use Rattle.ror_show_text_functions.specs.Blocks.{criterion_text}
use Rattle.ror_show_text_functions.proofs.block.write_criteria.Given as goal

abbrev pub invariant-loop-i : goal.invariant-loop-i
invariant-loop-i l = l.text.items ≡ l.fn.text.items ++ flat_map (criterion_text l.table l.function) (range_with_len 0 l.i)
