-- When what is said of extreme ranks is proved, and when it is true.
use Rattle.std.specs.Prelude.{◌≡◌, ℕ, ◌≤◌, Bool, true, false, List, [], ◌∷◌, length, map}
use Rattle.std.specs.List.{AllByRecursion, flat_map, range_with_len}
use Rattle.ror_statement.specs.declared.statement.Statement.{Statement}
use Rattle.ror_table.specs.Table.{DecisionTable}
use Rattle.ror_system.specs.System.{LinearSystem}
use Rattle.ror_check.specs.Proof.{base_system}
use Rattle.ror_ranks.specs.declared.extreme.Side.{Side}
use Rattle.ror_ranks.specs.declared.extreme.Side.TheVariants.{Best, Worst}
use Rattle.ror_ranks.specs.declared.extreme.Interval.{Interval}
use Rattle.ror_ranks.specs.declared.extreme.Extreme.{Extreme}
use Rattle.ror_ranks.specs.declared.extreme.Said.{Said}
use Rattle.ror_ranks.specs.declared.extreme.Said.TheVariants as said
use Rattle.ror_ranks.specs.Ranks.{LiesWithin, IsExtremeRank, count_of_rank}
use Rattle.ror_ranks.specs.Conflicts.{IsProvedConflict, IsReached}
use Rattle.ror_ranks.specs.Trees.{IsTree}

-- In each definition of a proof the base is the system of the list's statements alone.

-- ---- the two ends of an interval

-- The rank that no compatible function goes beyond, and the one that some function reaches: for the best rank the interval begins
-- with the first, for the worst it ends with it.
abbrev pub bound_of_all : Side → Interval → ℕ
bound_of_all Best x = x.from
bound_of_all Worst x = x.to

abbrev pub bound_of_one : Side → Interval → ℕ
bound_of_one Best x = x.to
bound_of_one Worst x = x.from

-- how many of the others have to count by every compatible function, and how many may by the one, of n alternatives in all
abbrev pub fewest : Side → ℕ → Interval → ℕ
fewest side n x = count_of_rank side n (bound_of_all side x)

abbrev pub allowed : Side → ℕ → Interval → ℕ
allowed side n x = count_of_rank side n (bound_of_one side x)

-- its ends are ranks, and in order
pub record AreEnds (t : DecisionTable) (x : Interval) : Type 0 where
  pub first : 1 ≤ x.from
  pub ordered : x.from ≤ x.to
  pub last : x.to ≤ length t.alternatives

-- The bound of all functions is proved by conflicts and a tree: it takes as many alternatives as have to count to meet the conflicts.
pub record IsProvedOfAll (t : DecisionTable) (base : LinearSystem) (side : Side) (a : ℕ) (x : Interval) : Type 0 where
  pub conflicts : AllByRecursion (IsProvedConflict t base side a) x.conflicts
  pub tree : IsTree x.conflicts (fewest side (length t.alternatives) x) x.tree

-- The bound of one function is proved by the function: but for as many alternatives as may count none does.
pub record IsProvedOfOne (t : DecisionTable) (base : LinearSystem) (side : Side) (a : ℕ) (x : Interval) : Type 0 where
  pub reached : IsReached t base side a x.except x.function
  pub number : length x.except ≡ allowed side (length t.alternatives) x

-- best rank: not before `from`, and at most `to`; worst rank: at least `from`, and not behind `to`
pub record IsProvedInterval (t : DecisionTable) (base : LinearSystem) (side : Side) (a : ℕ) (x : Interval) : Type 0 where
  pub ends : AreEnds t x
  pub of_one : IsProvedOfOne t base side a x
  pub of_all : IsProvedOfAll t base side a x

-- ---- what is true of an interval

-- The extreme rank lies in it; where its ends are the same, it is this rank.
pub record IsTrueInterval (t : DecisionTable) (list : List Statement) (side : Side) (a : ℕ) (x : Interval) : Type 0 where
  pub within : LiesWithin t list side a x.from x.to
  pub one : x.from ≡ x.to → IsExtremeRank t list side a x.from

-- ---- extreme ranks

-- an interval has its proof; what is too wide says nothing
abbrev pub IsProvedSaid : DecisionTable → LinearSystem → Side → ℕ → Said → Type 0
IsProvedSaid t base side a (said.Within x) = IsProvedInterval t base side a x
IsProvedSaid t base side a (said.Wide x) = Unit {0}

abbrev pub IsProvedExtreme : DecisionTable → LinearSystem → Extreme → Type 0
IsProvedExtreme t base x = IsProvedSaid t base x.side x.alternative x.said

-- and what is said is true of all value functions
abbrev pub IsTrueSaid : DecisionTable → List Statement → Side → ℕ → Said → Type 0
IsTrueSaid t list side a (said.Within x) = IsTrueInterval t list side a x
IsTrueSaid t list side a (said.Wide x) = Unit {0}

abbrev pub IsTrueExtreme : DecisionTable → List Statement → Extreme → Type 0
IsTrueExtreme t list x = IsTrueSaid t list x.side x.alternative x.said

abbrev pub is_wide : Said → Bool
is_wide (said.Within x) = false
is_wide (said.Wide x) = true

-- ---- all alternatives

-- what is due of an alternative: its best rank, and its worst
abbrev pub both_sides : ℕ → List (ℕ × Side)
both_sides a = (a, Best) ∷ (a, Worst) ∷ []

-- and of so many alternatives, in order
abbrev pub due_extremes : ℕ → List (ℕ × Side)
due_extremes n = flat_map both_sides (range_with_len 0 n)

abbrev pub extreme_of : Extreme → ℕ × Side
extreme_of x = (x.alternative, x.side)

-- each alternative of the table has its best and its worst rank, in order
abbrev pub AreDue : DecisionTable → List Extreme → Type 0
AreDue t xs = map extreme_of xs ≡ due_extremes (length t.alternatives)

pub record AreProvedRanks (t : DecisionTable) (list : List Statement) (xs : List Extreme) : Type 0 where
  pub due : AreDue t xs
  pub each : AllByRecursion (IsProvedExtreme t (base_system t list)) xs

pub record AreTrueRanks (t : DecisionTable) (list : List Statement) (xs : List Extreme) : Type 0 where
  pub due : AreDue t xs
  pub each : AllByRecursion (IsTrueExtreme t list) xs
