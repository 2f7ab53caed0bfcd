use Rattle.std.proofs.Common.{◌≡◌, ◌++◌}
use Rattle.std.specs.List.{flat_map, range_with_len}
use Rattle.ror_show_text_relation.specs.Text.{from_text}
use Rattle.ror_show_text_relation.proofs.lists.write_each_pair.Given as goal

abbrev pub invariant-loop-a : goal.invariant-loop-a
invariant-loop-a l = l.text.items ≡ l.fn.text.items ++ flat_map (from_text l.table l.pairs) (range_with_len 0 l.a)
