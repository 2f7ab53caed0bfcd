use Rattle.std.proofs.Common.{◌≡◌, ◌++◌}
use Rattle.std.specs.List.{flat_map, range_with_len}
use Rattle.ror_show_kit.specs.Parts.{number_text}
use Rattle.ror_show_kit.proofs.part.write_part_numbers.Given as goal

abbrev pub invariant-loop-b : goal.invariant-loop-b
invariant-loop-b l = l.text.items ≡ l.fn.text.items ++ flat_map (number_text l.fn.part) (range_with_len 0 l.b)
