use Rattle.std.proofs.Common.{◌≡◌, ◌++◌, take}
use Rattle.std.specs.List.{flat_map}
use Rattle.ror_statement.specs.Statements.{outranking}
use Rattle.ror_rows.specs.Rows.{weak_rows, strict_rows}
use Rattle.ror_rows.proofs.rows.Rows.push_classes.Given as goal

abbrev pub invariant-loop-first : goal.invariant-loop-first
invariant-loop-first l =
    (l.self.weak.items ≡ l.fn.self.weak.items ++ weak_rows l.table (flat_map (λ r. flat_map (outranking r) l.list) (take l.first-index l.list)))
    × (l.self.strict.items ≡ l.fn.self.strict.items ++ strict_rows l.table (flat_map (λ r. flat_map (outranking r) l.list) (take l.first-index l.list)))
