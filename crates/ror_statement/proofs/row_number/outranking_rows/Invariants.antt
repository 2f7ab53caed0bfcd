use Rattle.std.proofs.Common.{◌≡◌, ◌≤◌, take}
use Rattle.std.specs.List.{flat_map}
use Rattle.ror_statement.specs.Statements.{outranking}
use Rattle.ror_statement.specs.RowNumbers.{rows_number}
use Rattle.ror_statement.proofs.row_number.outranking_rows.Given as goal

abbrev pub invariant-loop-second : goal.invariant-loop-second
invariant-loop-second l = (l.count ≡ rows_number (flat_map (outranking l.first) (take l.second-index l.list))) × (l.count ≤ l.second-index)
