use Rattle.std.proofs.Common.{◌≡◌, ◌++◌, take, option_to_list}
use Rattle.std.specs.List.{flat_map}
use Rattle.ror_statement.specs.Statements.{comparison_of}
use Rattle.ror_rows.specs.Rows.{weak_rows, strict_rows}
use Rattle.ror_rows.proofs.rows.Rows.push_statements.Given as goal

abbrev pub invariant-loop-statement : goal.invariant-loop-statement
invariant-loop-statement l =
    (l.self.weak.items ≡ l.fn.self.weak.items ++ weak_rows l.table (flat_map (λ s. option_to_list (comparison_of s)) (take l.statement-index l.list)))
    × (l.self.strict.items ≡ l.fn.self.strict.items ++ strict_rows l.table (flat_map (λ s. option_to_list (comparison_of s)) (take l.statement-index l.list)))
