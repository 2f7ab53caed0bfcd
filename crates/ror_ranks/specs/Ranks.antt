-- The rank of an alternative by one value function, and its best and its worst rank over all that are compatible with a list.
use Rattle.std.specs.Prelude.{◌≡◌, ℕ, ◌+◌, ◌-◌, ◌≤◌, Bool, not, ◌==◌, List, length, ℤ, int_lt}
use Rattle.std.specs.List.{filter, range_with_len}
use Rattle.ror_statement.specs.declared.statement.Statement.{Statement}
use Rattle.ror_table.specs.Table.{DecisionTable}
use Rattle.ror_value.specs.Value.{value}
use Rattle.ror_value.specs.Meaning.{IsCompatible}
use Rattle.ror_ranks.specs.declared.extreme.Side.{Side}
use Rattle.ror_ranks.specs.declared.extreme.Side.TheVariants.{Best, Worst}

-- ---- by one function

-- by the function the second alternative is worth more than the first
abbrev pub is_above : DecisionTable → List ℤ → ℕ → ℕ → Bool
is_above t w a b = int_lt (value t w a) (value t w b)

-- the alternatives that are worth more than this one, in order of the table
abbrev pub above : DecisionTable → List ℤ → ℕ → List ℕ
above t w a = filter (is_above t w a) (range_with_len 0 (length t.alternatives))

-- 1 more than how many are worth more
abbrev pub rank_by : DecisionTable → List ℤ → ℕ → ℕ
rank_by t w a = 1 + length (above t w a)

-- ---- over all compatible functions

-- every compatible function gives the alternative at least this rank, or at most this one
abbrev pub EveryRankIsFrom : DecisionTable → List Statement → ℕ → ℕ → Type 0
EveryRankIsFrom t list a r = (w : List ℤ) → IsCompatible t list w → r ≤ rank_by t w a

abbrev pub EveryRankIsTo : DecisionTable → List Statement → ℕ → ℕ → Type 0
EveryRankIsTo t list a r = (w : List ℤ) → IsCompatible t list w → rank_by t w a ≤ r

-- some compatible function does
abbrev pub SomeRankIsFrom : DecisionTable → List Statement → ℕ → ℕ → Type 0
SomeRankIsFrom t list a r = (w : List ℤ) × IsCompatible t list w × (r ≤ rank_by t w a)

abbrev pub SomeRankIsTo : DecisionTable → List Statement → ℕ → ℕ → Type 0
SomeRankIsTo t list a r = (w : List ℤ) × IsCompatible t list w × (rank_by t w a ≤ r)

-- some compatible function gives the alternative this rank
abbrev pub SomeRankIs : DecisionTable → List Statement → ℕ → ℕ → Type 0
SomeRankIs t list a r = (w : List ℤ) × IsCompatible t list w × (rank_by t w a ≡ r)

-- the best rank is the least that some compatible function gives, and the worst one the greatest
pub record IsBestRank (t : DecisionTable) (list : List Statement) (a r : ℕ) : Type 0 where
  pub given : SomeRankIs t list a r
  pub least : EveryRankIsFrom t list a r

pub record IsWorstRank (t : DecisionTable) (list : List Statement) (a r : ℕ) : Type 0 where
  pub given : SomeRankIs t list a r
  pub greatest : EveryRankIsTo t list a r

abbrev pub IsExtremeRank : DecisionTable → List Statement → Side → ℕ → ℕ → Type 0
IsExtremeRank t list Best a r = IsBestRank t list a r
IsExtremeRank t list Worst a r = IsWorstRank t list a r

-- the extreme rank lies between these two: none is beyond the one, and some function reaches the other or goes beyond it
abbrev pub LiesWithin : DecisionTable → List Statement → Side → ℕ → ℕ → ℕ → Type 0
LiesWithin t list Best a from to = EveryRankIsFrom t list a from × SomeRankIsTo t list a to
LiesWithin t list Worst a from to = SomeRankIsFrom t list a from × EveryRankIsTo t list a to

-- ---- the alternatives that count on a side

-- all other alternatives, in order of the table
abbrev pub others : DecisionTable → ℕ → List ℕ
others t a = filter (λ b. not (b == a)) (range_with_len 0 (length t.alternatives))

-- by a function the second alternative counts for the first: for its best rank where it is worth more, for its worst where it isn't
abbrev pub counts : DecisionTable → List ℤ → Side → ℕ → ℕ → Bool
counts t w Best a b = is_above t w a b
counts t w Worst a b = not (is_above t w a b)

-- the others that count
abbrev pub counted : DecisionTable → List ℤ → Side → ℕ → List ℕ
counted t w side a = filter (counts t w side a) (others t a)

-- the rank of an alternative where so many of the others count, of n alternatives in all
abbrev pub rank_of_count : Side → ℕ → ℕ → ℕ
rank_of_count Best n count = count + 1
rank_of_count Worst n count = n - count

-- the count by which an alternative has a rank, of n alternatives in all
abbrev pub count_of_rank : Side → ℕ → ℕ → ℕ
count_of_rank Best n r = r - 1
count_of_rank Worst n r = n - r
