use Rattle.std.proofs.Common.{◌≡◌, ◌++◌}
use Rattle.std.specs.List.{flat_map, range_with_len}
use Rattle.ror_show_text_group.specs.Matrix.{row_text}
use Rattle.ror_show_text_group.proofs.matrix.write_rows.Given as goal

abbrev pub invariant-loop-a : goal.invariant-loop-a
invariant-loop-a l = l.text.items ≡ l.fn.text.items ++ flat_map (row_text l.table l.rows l.fn.part) (range_with_len 0 l.a)
