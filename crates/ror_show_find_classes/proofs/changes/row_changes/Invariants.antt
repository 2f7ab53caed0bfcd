use Rattle.std.proofs.Common.{◌≡◌, take}
use Rattle.std.specs.List.{flat_map}
use Rattle.ror_show_find_classes.specs.ClassChanges.{row_change}
use Rattle.ror_show_find_classes.proofs.changes.row_changes.Given as goal

abbrev pub invariant-rows : goal.invariant-rows
invariant-rows l = l.made.items ≡ flat_map (row_change l.before) (take l.row-index l.now)
