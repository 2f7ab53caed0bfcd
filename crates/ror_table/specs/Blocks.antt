-- The columns of a criterion at a rank.
use Rattle.std.specs.Prelude.{ℕ, ◌-◌, min, List, ◌++◌, length, replicate, if◌then◌else◌, ℤ, pos}
use Rattle.std.specs.List.{flat_map, range_with_len}
use Rattle.ror_integers.specs.Vectors.{ones}
use Rattle.ror_table.specs.Table.{DecisionTable, is_linear, steps, width, weight}

-- the columns of a criterion at a rank. Of a stepwise one: 1 for each step up to the rank, 0 for the others. Of a linear one
-- with steps: the weight of the level.
abbrev pub block : DecisionTable → ℕ → ℕ → List ℤ
block t i r = if is_linear t i then replicate (width t i) (weight t i r)
    else ones (min r (steps t i)) ++ replicate (steps t i - r) (pos 0)

-- what a value function counts of each column at the best levels
abbrev pub tops : DecisionTable → List ℤ
tops t = flat_map (λ i. block t i (steps t i)) (range_with_len 0 (length t.criteria))
