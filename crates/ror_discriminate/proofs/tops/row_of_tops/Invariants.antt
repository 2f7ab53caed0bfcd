use Rattle.std.proofs.Common.{◌≡◌, take}
use Rattle.std.specs.List.{AllByRecursion}
use Rattle.ror_table.specs.Blocks.{tops}
use Rattle.ror_system.specs.System.{IsNarrow}
use Rattle.ror_discriminate.proofs.tops.row_of_tops.Given as goal

abbrev pub invariant-loop-column : goal.invariant-loop-column
invariant-loop-column l = (l.entries.items ≡ take l.column (tops l.table)) × AllByRecursion IsNarrow l.entries.items
