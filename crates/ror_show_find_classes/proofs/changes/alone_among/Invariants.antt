use Rattle.std.proofs.Common.{◌≡◌, take}
use Rattle.std.specs.List.{flat_map}
use Rattle.ror_show_find_classes.specs.ClassChanges.{alone_in}
use Rattle.ror_show_find_classes.proofs.changes.alone_among.Given as goal

abbrev pub invariant-rows : goal.invariant-rows
invariant-rows l = l.made.items ≡ flat_map (alone_in l.others) (take l.row-index l.rows)
