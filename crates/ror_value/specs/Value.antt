-- Value functions of a table: additive, monotone, linear on linear criteria, normalised by the value of the best levels.
use Rattle.std.specs.Prelude.{◌≡◌, ℕ, if◌then◌else◌, List, length, map, take, drop, ℤ, pos, ◌*ℤ◌, ◌<ℤ◌}
use Rattle.std.specs.List.{range_with_len}
use Rattle.ror_integers.specs.Vectors.{dot, entry, total, NoneNegative}
use Rattle.ror_table.specs.Blocks.{tops}
use Rattle.ror_table.specs.Table.{DecisionTable, IsTable, is_linear, rank, width, weight, offset, columns}

-- A value function is one whole number for each column: the gain of a step from one level of a criterion to the next, or what
-- a linear criterion gains for each unit of weight. None is negative, and not all are 0. It stands for the function whose
-- marginal values are divided by the ideal value.
pub record IsValueFunction (t : DecisionTable) (w : List ℤ) : Type 0 where
  pub one_for_each_column : length w ≡ columns t
  pub none_negative : NoneNegative w
  pub positive : pos 0 <ℤ total w

-- a function's numbers on one criterion
abbrev pub steps_on : DecisionTable → List ℤ → ℕ → List ℤ
steps_on t w i = take (width t i) (drop (offset t i) w)

-- the marginal value on criterion i at a rank: the sum of the first steps, or the weight of the level times the one number
abbrev pub marginal : DecisionTable → List ℤ → ℕ → ℕ → ℤ
marginal t w i r = if is_linear t i then weight t i r *ℤ entry (steps_on t w i) 0
    else total (take r (steps_on t w i))

-- the value of an alternative: the sum of its marginal values
abbrev pub value : DecisionTable → List ℤ → ℕ → ℤ
value t w a = total (map (λ i. marginal t w i (rank t a i)) (range_with_len 0 (length t.criteria)))

-- the value of an alternative with the best level on each criterion: the sum of all numbers, each times what the best level
-- counts of its column
abbrev pub ideal_value : DecisionTable → List ℤ → ℤ
ideal_value t w = dot (tops t) w

-- a function with the value that its values are divided by
pub record Normalised : Type 0 where
  pub steps : List ℤ
  pub total : ℤ

-- it is a value function of the table, with its ideal value
pub record IsFunctionOf (t : DecisionTable) (f : Normalised) : Type 0 where
  pub table : IsTable t
  pub function : IsValueFunction t f.steps
  pub ideal : f.total ≡ ideal_value t f.steps
