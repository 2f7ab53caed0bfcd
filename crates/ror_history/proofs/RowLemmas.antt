-- Fewer statements take no more rows.
use Rattle.std.proofs.Common.{◌≤◌, Bool, List, map, length}
use Rattle.std.specs.List.{filter}
use Rattle.ror_statement.specs.declared.statement.Statement.{Statement}
use Rattle.ror_statement.specs.declared.statement.Numbered.{Numbered}
use Rattle.ror_statement.specs.RowNumbers.{row_count}
use Rattle.ror_statement.proofs.Sublists.{sublist-map, sublist-filter, length-sublist, row_count-sublist}

abbrev pub statements_in : List Numbered → List Statement
statements_in list = map (λ x. x.statement) list

pub row_count-filter : (p : Numbered → Bool) (list : List Numbered) → row_count (statements_in (filter p list)) ≤ row_count (statements_in list)
row_count-filter p list = row_count-sublist (statements_in (filter p list)) (statements_in list) (sublist-map (λ (x : Numbered). x.statement) (filter p list) list (sublist-filter p list))

pub length-filter_le : {X : Type 0} (p : X → Bool) (xs : List X) → length (filter p xs) ≤ length xs
length-filter_le p xs = length-sublist (filter p xs) xs (sublist-filter p xs)
