use Rattle.std.proofs.Common.{◌≡◌, ◌++◌, take}
use Rattle.std.specs.List.{flat_map}
use Rattle.ror_show_text_classes.specs.Text.{row_text}
use Rattle.ror_show_text_classes.proofs.table.write_rows.Given as goal

abbrev pub invariant-rows : goal.invariant-rows
invariant-rows l = l.text.items ≡ l.initial.text.items ++ flat_map (row_text l.table l.part) (take l.row-index l.rows)
