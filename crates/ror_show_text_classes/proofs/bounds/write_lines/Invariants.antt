use Rattle.std.proofs.Common.{◌≡◌, ◌++◌}
use Rattle.std.specs.List.{flat_map, range_with_len}
use Rattle.ror_show_text_classes.specs.Pages.{bounds_at}
use Rattle.ror_show_text_classes.proofs.bounds.write_lines.Given as goal

abbrev pub invariant-loop-k : goal.invariant-loop-k
invariant-loop-k l = l.text.items ≡ l.fn.text.items ++ flat_map (bounds_at l.table l.rows l.bounds) (range_with_len 0 l.k)
