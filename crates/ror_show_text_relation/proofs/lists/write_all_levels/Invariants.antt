use Rattle.std.proofs.Common.{◌≡◌, ◌++◌}
use Rattle.std.specs.List.{flat_map, range_with_len}
use Rattle.ror_show_text_relation.specs.Text.{some_level_text}
use Rattle.ror_show_text_relation.proofs.lists.write_all_levels.Given as goal

abbrev pub invariant-loop-k : goal.invariant-loop-k
invariant-loop-k l = l.text.items ≡ l.fn.text.items ++ flat_map (some_level_text l.table l.page) (range_with_len 0 l.k)
