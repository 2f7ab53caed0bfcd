use Rattle.std.proofs.Common.{◌≡◌, ◌++◌}
use Rattle.std.specs.List.{flat_map, range_with_len}
use Rattle.ror_show_text_group.specs.Matrix.{cell_text}
use Rattle.ror_show_text_group.proofs.matrix.write_cells.Given as goal

abbrev pub invariant-loop-b : goal.invariant-loop-b
invariant-loop-b l = l.text.items ≡ l.fn.text.items ++ flat_map (cell_text l.rows l.fn.part l.fn.a) (range_with_len 0 l.b)
