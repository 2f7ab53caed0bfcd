-- Laws of ranks, of conflicts and trees, and of what is accepted and found.
use Rattle.std.specs.Prelude.{◌≡◌, ◌↔◌, ℕ, ◌+◌, ◌<◌, ◌≤◌, true, false, nat_eq, List, ◌++◌, length, ℤ, ◌≤ℤ◌, ◌<ℤ◌}
use Rattle.std.specs.List.{AllByRecursion, IsDistinct}
use Rattle.ror_text.specs.FirstFault.{IsFirst}
use Rattle.ror_statement.specs.declared.statement.Statement.{Statement}
use Rattle.ror_table.specs.Table.{DecisionTable}
use Rattle.ror_value.specs.Over.{IsLawfulIn}
use Rattle.ror_value.specs.Value.{value}
use Rattle.ror_value.specs.Meaning.{IsCompatible}
use Rattle.ror_check.specs.Proof.{base_system}
use Rattle.ror_ranks.specs.declared.extreme.Side.{Side}
use Rattle.ror_ranks.specs.declared.extreme.Conflict.{Conflict}
use Rattle.ror_ranks.specs.declared.extreme.Node.{Node}
use Rattle.ror_ranks.specs.declared.extreme.Extreme.{Extreme}
use Rattle.ror_ranks.specs.declared.fault.RanksFault.{RanksFault}
use Rattle.ror_ranks.specs.declared.limits.TheConstants.{MOST_NODES}
use Rattle.ror_ranks.specs.Ranks.{rank_by, rank_of_count, counted, EveryRankIsFrom, EveryRankIsTo, IsExtremeRank, IsBestRank, IsWorstRank}
use Rattle.ror_ranks.specs.Conflicts.{are_others, side_system, IsConflict, IsProvedConflict}
use Rattle.ror_ranks.specs.Trees.{share, IsTree}
use Rattle.ror_ranks.specs.Proof.{is_wide, AreProvedRanks, AreTrueRanks}
use Rattle.ror_ranks.specs.Faults.{FailsRanks, IsEarlierRanksFault}
use Rattle.ror_ranks.specs.Finding.{AreGivenRanks, HasNoWideNote}

-- ---- ranks

-- an alternative has one best rank, and one worst
abbrev pub OneExtremeRank : Type 0
OneExtremeRank = (t : DecisionTable) (list : List Statement) (side : Side) (a r s : ℕ)
    → IsExtremeRank t list side a r → IsExtremeRank t list side a s → r ≡ s

-- The best rank is at most the worst, and both are ranks of the table: from 1 to the number of alternatives.
pub record RanksAreInOrder : Type 0 where
  pub order : (t : DecisionTable) (list : List Statement) (a best worst : ℕ)
      → IsBestRank t list a best → IsWorstRank t list a worst → best ≤ worst
  pub within : (t : DecisionTable) (list : List Statement) (side : Side) (a r : ℕ) → a < length t.alternatives
      → IsExtremeRank t list side a r → (1 ≤ r) × (r ≤ length t.alternatives)

-- these are different alternatives of the table, and worth more than one by every compatible function
pub record AreAlwaysAbove (t : DecisionTable) (list : List Statement) (a : ℕ) (bs : List ℕ) : Type 0 where
  pub different : IsDistinct nat_eq bs
  pub of_table : AllByRecursion (λ b. b < length t.alternatives) bs
  pub more : AllByRecursion (λ b. (w : List ℤ) → IsCompatible t list w → value t w a <ℤ value t w b) bs

-- what is above an alternative by every function counts in both ranks
abbrev pub AlwaysAboveCounts : Type 0
AlwaysAboveCounts = (t : DecisionTable) (list : List Statement) (side : Side) (a r : ℕ) (bs : List ℕ)
    → AreAlwaysAbove t list a bs → IsExtremeRank t list side a r → length bs + 1 ≤ r

-- More statements widen no interval: bounds of all functions stay, so that the best rank never becomes better and the worst never
-- worse.
pub record MoreStatementsNeverWiden : Type 0 where
  pub from : (t : DecisionTable) (list more : List Statement) (a r : ℕ)
      → EveryRankIsFrom t list a r → EveryRankIsFrom t (list ++ more) a r
  pub to : (t : DecisionTable) (list more : List Statement) (a r : ℕ)
      → EveryRankIsTo t list a r → EveryRankIsTo t (list ++ more) a r
  pub best : (t : DecisionTable) (list more : List Statement) (a r s : ℕ)
      → IsBestRank t list a r → IsBestRank t (list ++ more) a s → r ≤ s
  pub worst : (t : DecisionTable) (list more : List Statement) (a r s : ℕ)
      → IsWorstRank t list a r → IsWorstRank t (list ++ more) a s → s ≤ r

-- the function is compatible with the list, and gives an alternative at least the value of each other one
pub record IsFirstBy (t : DecisionTable) (list : List Statement) (a : ℕ) (w : List ℤ) : Type 0 where
  pub compatible : IsCompatible t list w
  pub above_none : (b : ℕ) → b < length t.alternatives → value t w b ≤ℤ value t w a

-- The best rank of an alternative is 1 exactly where by one compatible function it is at least as good as all others together. That it
-- possibly is at least as good as each of them doesn't say this.
abbrev pub BestRankOneIsTogether : Type 0
BestRankOneIsTogether = (t : DecisionTable) (list : List Statement) (a : ℕ)
    → IsBestRank t list a 1 ↔ ((w : List ℤ) × IsFirstBy t list a w)

-- By a function the rank of an alternative is that of how many of the others count, on either side.
abbrev pub RanksAreCounts : Type 0
RanksAreCounts = (t : DecisionTable) (w : List ℤ) (side : Side) (a : ℕ) → a < length t.alternatives
    → rank_by t w a ≡ rank_of_count side (length t.alternatives) (length (counted t w side a))

-- ---- conflicts and trees

-- of a proved conflict some member counts by every compatible function
abbrev pub ProvedConflictsAreTrue : Type 0
ProvedConflictsAreTrue = (t : DecisionTable) (list : List Statement) (side : Side) (a : ℕ) (c : Conflict)
    → IsLawfulIn t list → a < length t.alternatives
    → IsProvedConflict t (base_system t list) side a c → IsConflict t list side a c.members

-- the set meets each conflict
abbrev pub MeetsEach : List Conflict → List ℕ → Type 0
MeetsEach conflicts met = AllByRecursion (λ c. share c.members met ≡ true) conflicts

-- where the nodes are a tree for so many, no fewer alternatives meet each conflict
abbrev pub TreesCount : Type 0
TreesCount = (conflicts : List Conflict) (goal : ℕ) (nodes : List Node) (met : List ℕ)
    → IsTree conflicts goal nodes → IsDistinct nat_eq met → MeetsEach conflicts met → goal ≤ length met

-- ---- what is accepted

-- what is proved of the extreme ranks over a list is true of all value functions that are compatible with it
abbrev pub ProvedRanksAreTrue : Type 0
ProvedRanksAreTrue = (t : DecisionTable) (list : List Statement) (xs : List Extreme)
    → IsLawfulIn t list → AreProvedRanks t list xs → AreTrueRanks t list xs

-- no test fails of extreme ranks that are proved
abbrev pub ProvedRanksPassEachTest : Type 0
ProvedRanksPassEachTest = (t : DecisionTable) (list : List Statement) (xs : List Extreme) (fault : RanksFault)
    → AreProvedRanks t list xs → FailsRanks t list xs fault → ⊥

-- extreme ranks have no two first faults
abbrev pub OneFirstFault : Type 0
OneFirstFault = (t : DecisionTable) (list : List Statement) (xs : List Extreme) (f g : RanksFault)
    → IsFirst (FailsRanks t list xs) IsEarlierRanksFault f
    → IsFirst (FailsRanks t list xs) IsEarlierRanksFault g → f ≡ g

-- ---- what is found

-- no number passes most on the path of the list's system, nor on that of the functions by which none of some other alternatives counts
pub record IsNarrowList (most : ℕ) (t : DecisionTable) (list : List Statement) : Type 0 where
  pub base : HasNoWideNote most (base_system t list)
  pub sides : (side : Side) (a : ℕ) (members : List ℕ) → a < length t.alternatives
      → are_others t a members ≡ true → HasNoWideNote most (side_system t (base_system t list) side a members)

-- what is found over a list of which no number is too wide says an interval of each extreme rank
abbrev pub NothingIsTooWide : Type 0
NothingIsTooWide = (most : ℕ) (t : DecisionTable) (list : List Statement) (xs : List Extreme)
    → IsNarrowList most t list → AreGivenRanks most t list xs
    → AllByRecursion (λ x. is_wide x.said ≡ false) xs

-- a tree has so many nodes at most
abbrev pub LimitsAre : Type 0
LimitsAre = MOST_NODES ≡ 1000
