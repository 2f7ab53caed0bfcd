use Rattle.std.proofs.Common.{◌≡◌, ◌++◌}
use Rattle.std.specs.List.{flat_map, range_with_len}
use Rattle.ror_show_text_whatif.specs.TimeLists.{lists_at}
use Rattle.ror_show_text_whatif.proofs.time_lists.write_time_lists.Given as goal

abbrev pub invariant-loop-k : goal.invariant-loop-k
invariant-loop-k l = l.text.items ≡ l.fn.text.items ++ flat_map (lists_at l.table l.lines) (range_with_len 0 l.k)
