use Rattle.std.proofs.Common.{◌≡◌, ◌++◌, map}
use Rattle.std.specs.List.{range_with_len}
use Rattle.ror_rows.specs.Steps.{entry_at}
use Rattle.ror_rows.proofs.differences.push_criterion.Given as goal

abbrev pub invariant-loop-column : goal.invariant-loop-column
invariant-loop-column l = l.row.items ≡ l.fn.row.items ++ map (entry_at l.table l.i l.ranks) (range_with_len 0 l.column)
