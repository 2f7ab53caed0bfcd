use Rattle.std.proofs.Common.{◌≡◌, ◌++◌}
use Rattle.std.specs.List.{flat_map, range_with_len}
use Rattle.ror_show_text_whatif.specs.Table.{rows_below}
use Rattle.ror_show_text_whatif.proofs.table.write_above.Given as goal

abbrev pub invariant-loop-k : goal.invariant-loop-k
invariant-loop-k l = l.text.items ≡ l.fn.text.items ++ flat_map (rows_below l.table l.rows l.most) (range_with_len 0 l.k)
