-- Dominance: what the table alone decides.
use Rattle.std.specs.Prelude.{ℕ, zero, suc, Bool, true, ◌&&◌, nat_le, List, length, map}
use Rattle.std.specs.List.{range_with_len}
use Rattle.ror_table.specs.Table.{DecisionTable, rank}

-- on each of the first n criteria the performance of the one is no worse than that of the other: no fewer of the criterion's
-- performances are worse than it
abbrev pub is_nowhere_worse : DecisionTable → ℕ → ℕ → ℕ → Bool
is_nowhere_worse t a b zero = true
is_nowhere_worse t a b (suc n) = nat_le (rank t b n) (rank t a n) && is_nowhere_worse t a b n

abbrev pub dominates : DecisionTable → ℕ → ℕ → Bool
dominates t a b = is_nowhere_worse t a b (length t.criteria)

abbrev pub dominated_by : DecisionTable → ℕ → List Bool
dominated_by t a = map (dominates t a) (range_with_len 0 (length t.alternatives))

-- row by row, whether the row's alternative dominates the column's
abbrev pub dominance : DecisionTable → List (List Bool)
dominance t = map (dominated_by t) (range_with_len 0 (length t.alternatives))
