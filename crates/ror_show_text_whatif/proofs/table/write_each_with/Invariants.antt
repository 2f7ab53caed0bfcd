use Rattle.std.proofs.Common.{◌≡◌, ◌++◌, take}
use Rattle.std.specs.List.{flat_map}
use Rattle.ror_show_text_whatif.specs.Table.{row_if}
use Rattle.ror_show_text_whatif.proofs.table.write_each_with.Given as goal

abbrev pub invariant-rows : goal.invariant-rows
invariant-rows l = l.text.items ≡ l.initial.text.items ++ flat_map (row_if l.table l.count) (take l.row-index l.rows)
