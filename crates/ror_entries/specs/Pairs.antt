-- The pairs of entries of which there is one for each ordered pair of different alternatives.
use Rattle.std.specs.Prelude.{ℕ, List, length}
use Rattle.ror_table.specs.Table.{DecisionTable}
use Rattle.ror_relation.specs.Pairs.{ordered_pairs}

-- the ordered pairs of different alternatives, in the order of the table
abbrev pub pairs_of : DecisionTable → List (ℕ × ℕ)
pairs_of t = ordered_pairs (length t.alternatives)
