use Rattle.std.proofs.Common.{◌≡◌}
use Rattle.ror_table.specs.Table.{id_of}
use Rattle.ror_show_sheet.specs.Pieces.{widest}
use Rattle.ror_show_sheet.proofs.sheet.id_width.Given as goal

abbrev pub invariant-loop-a : goal.invariant-loop-a
invariant-loop-a l = l.widest ≡ widest (id_of l.table) l.a
