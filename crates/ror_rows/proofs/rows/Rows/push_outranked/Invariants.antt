use Rattle.std.proofs.Common.{◌≡◌, ◌++◌, take}
use Rattle.std.specs.List.{flat_map}
use Rattle.ror_statement.specs.Statements.{outranking}
use Rattle.ror_rows.specs.Rows.{weak_rows, strict_rows}
use Rattle.ror_rows.proofs.rows.Rows.push_outranked.Given as goal

abbrev pub invariant-loop-second : goal.invariant-loop-second
invariant-loop-second l =
    (l.self.weak.items ≡ l.fn.self.weak.items ++ weak_rows l.table (flat_map (outranking l.first) (take l.second-index l.list)))
    × (l.self.strict.items ≡ l.fn.self.strict.items ++ strict_rows l.table (flat_map (outranking l.first) (take l.second-index l.list)))
