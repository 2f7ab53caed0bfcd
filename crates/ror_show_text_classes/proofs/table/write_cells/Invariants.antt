use Rattle.std.proofs.Common.{◌≡◌, ◌++◌}
use Rattle.std.specs.List.{flat_map, range_with_len}
use Rattle.ror_show_text_classes.specs.Text.{cell_text}
use Rattle.ror_show_text_classes.proofs.table.write_cells.Given as goal

abbrev pub invariant-loop-h : goal.invariant-loop-h
invariant-loop-h l = l.text.items ≡ l.fn.text.items ++ flat_map (cell_text l.row l.part) (range_with_len 0 l.h)
