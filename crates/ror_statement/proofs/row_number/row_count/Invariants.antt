use Rattle.std.proofs.Common.{◌≡◌, ◌≤◌, ◌+◌, ◌*◌, length, take, option_to_list}
use Rattle.std.specs.List.{flat_map}
use Rattle.ror_statement.specs.Statements.{comparison_of, outranking}
use Rattle.ror_statement.specs.RowNumbers.{rows_number}
use Rattle.ror_statement.proofs.row_number.row_count.Given as goal

abbrev pub invariant-loop-statement : goal.invariant-loop-statement
invariant-loop-statement l = (l.count ≡ 1 + rows_number (flat_map (λ s. option_to_list (comparison_of s)) (take l.statement-index l.list))) × (l.count ≤ 1 + 2 * l.statement-index)

abbrev pub invariant-loop-first : goal.invariant-loop-first
invariant-loop-first l =
    (l.count ≡ 1 + rows_number (flat_map (λ s. option_to_list (comparison_of s)) l.list) + rows_number (flat_map (λ r. flat_map (outranking r) l.list) (take l.first-index l.list))) × (l.count ≤ 1 + 2 * length l.list + 201 * l.first-index)
