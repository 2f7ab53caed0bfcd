use Rattle.std.proofs.Common.{◌≡◌, ◌++◌, map, take}
use Rattle.ror_rows.specs.Rows.{comparison_of_extra, weak_rows, strict_rows}
use Rattle.ror_rows.proofs.rows.Rows.push_extras.Given as goal

abbrev pub invariant-loop-row : goal.invariant-loop-row
invariant-loop-row l =
    (l.self.weak.items ≡ l.fn.self.weak.items ++ weak_rows l.table (map comparison_of_extra (take l.row-index l.extra)))
    × (l.self.strict.items ≡ l.fn.self.strict.items ++ strict_rows l.table (map comparison_of_extra (take l.row-index l.extra)))
