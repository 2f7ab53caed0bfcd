use Rattle.std.proofs.Common.{◌≡◌, ◌++◌}
use Rattle.ror_table.specs.Table.{id_of}
use Rattle.ror_show_sheet.specs.Pieces.{laid}
use Rattle.ror_show_sheet.proofs.sheet.write_ids.Given as goal

abbrev pub invariant-loop-a : goal.invariant-loop-a
invariant-loop-a l = l.text.items ≡ l.fn.text.items ++ laid l.width (id_of l.table) l.a
