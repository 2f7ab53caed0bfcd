use Rattle.std.proofs.Common.{◌≡◌, ◌++◌}
use Rattle.std.specs.List.{flat_map, range_with_len}
use Rattle.ror_show_text_classes.specs.Text.{part_text_at}
use Rattle.ror_show_text_classes.proofs.table.write_matrix.Given as goal

abbrev pub invariant-loop-place : goal.invariant-loop-place
invariant-loop-place l = l.text.items ≡ l.fn.text.items ++ flat_map (part_text_at l.table l.rows l.width) (range_with_len 0 l.place)
