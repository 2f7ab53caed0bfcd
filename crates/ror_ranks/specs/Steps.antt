-- What each step of the check of extreme ranks leaves to the next, and each step of the search.
use Rattle.std.specs.Prelude.{◌≡◌, ◌⊎◌, ℕ, ◌+◌, ◌-◌, ◌<◌, ◌≤◌, true, false, List, length, take, slice_get, Some}
use Rattle.std.specs.List.{AllByRecursion, flat_map, range_with_len}
use Rattle.ror_text.specs.FirstFault.{IsFirst}
use Rattle.ror_statement.specs.declared.row_number.TheConstants.{MOST_ROWS}
use Rattle.ror_table.specs.Table.{DecisionTable, IsTable, columns}
use Rattle.ror_system.specs.System.{LinearSystem}
use Rattle.ror_system.specs.Acceptance.{FailsSolution, FailsMultipliers, IsEarlierTest}
use Rattle.ror_ranks.specs.declared.extreme.Side.{Side}
use Rattle.ror_ranks.specs.declared.extreme.Conflict.{Conflict}
use Rattle.ror_ranks.specs.declared.extreme.Node.{Node}
use Rattle.ror_ranks.specs.declared.extreme.Interval.{Interval}
use Rattle.ror_ranks.specs.declared.extreme.Said.{Said}
use Rattle.ror_ranks.specs.declared.extreme.Said.TheVariants as said
use Rattle.ror_ranks.specs.declared.fault.ExtremeFault.{ExtremeFault}
use Rattle.ror_ranks.specs.declared.fault.ExtremeFault.TheVariants as faults
use Rattle.ror_ranks.specs.declared.fault.RanksFault.{RanksFault}
use Rattle.ror_ranks.specs.declared.fault.RanksFault.TheVariants as ranks
use Rattle.ror_ranks.specs.declared.sides.Asked.{Asked}
use Rattle.ror_ranks.specs.Conflicts.{are_others, others_but, side_system, IsProvedConflict}
use Rattle.ror_ranks.specs.Proof.{both_sides, AreEnds, IsProvedOfOne, fewest, allowed}
use Rattle.ror_ranks.specs.Faults.{FailsNode, IsUnfinished, FailsExcept}

-- ---- what is asked

-- the base is over the columns of the table and leaves room for rows on a side, and the alternative is of the table
pub record IsAsked (x : Asked) : Type 0 where
  pub table : IsTable x.table.now
  pub alternative : x.alternative < length x.table.now.alternatives
  pub columns_same : x.base.now.columns ≡ columns x.table.now
  pub few_rows : length x.base.now.weak + length x.base.now.strict ≤ MOST_ROWS

-- ---- the check

-- the best and the worst rank of each alternative from one on, up to so many
abbrev pub due_from : ℕ → ℕ → List (ℕ × Side)
due_from first count = flat_map both_sides (range_with_len first (count - first))

-- a node may not stand, or one is missing; or memory ran out
abbrev pub RefusesTree : List Conflict → ℕ → List Node → ExtremeFault → Type 0
RefusesTree conflicts goal nodes (faults.Node place) = FailsNode conflicts goal nodes place
RefusesTree conflicts goal nodes faults.Unfinished = IsUnfinished conflicts goal nodes
RefusesTree conflicts goal nodes faults.Memory = Unit {0}
RefusesTree conflicts goal nodes _ = ⊥

-- the conflict at a place is refused, or memory ran out
abbrev pub RefusesConflict : DecisionTable → LinearSystem → Side → ℕ → ℕ → Conflict → ExtremeFault → Type 0
RefusesConflict t base side a place c (faults.Members at) = (at ≡ place) × (are_others t a c.members ≡ false)
RefusesConflict t base side a place c (faults.Conflict at r) = (at ≡ place) × (are_others t a c.members ≡ true)
    × IsFirst (FailsMultipliers (side_system t base side a c.members) c.multipliers.weak c.multipliers.strict) IsEarlierTest r
RefusesConflict t base side a place c faults.Memory = Unit {0}
RefusesConflict t base side a place c _ = ⊥

-- one is, and those before it are proved; or memory ran out
pub record RefusesOneOf (t : DecisionTable) (base : LinearSystem) (side : Side) (a : ℕ) (conflicts : List Conflict) (fault : ExtremeFault) : Type 0 where
  pub place : ℕ
  pub conflict : Conflict
  pub there : slice_get conflicts place ≡ Some conflict
  pub before : AllByRecursion (IsProvedConflict t base side a) (take place conflicts)
  pub refuses : RefusesConflict t base side a place conflict fault

abbrev pub RefusesConflicts : DecisionTable → LinearSystem → Side → ℕ → List Conflict → ExtremeFault → Type 0
RefusesConflicts t base side a conflicts faults.Memory = Unit {0}
RefusesConflicts t base side a conflicts fault = RefusesOneOf t base side a conflicts fault

-- the exceptions or the function are refused, or memory ran out
abbrev pub RefusesFunction : DecisionTable → LinearSystem → Side → ℕ → Interval → ExtremeFault → Type 0
RefusesFunction t base side a x faults.Except = FailsExcept t side a x
RefusesFunction t base side a x (faults.Function r) = (are_others t a x.except ≡ true)
    × (length x.except ≡ allowed side (length t.alternatives) x)
    × IsFirst (FailsSolution (side_system t base side a (others_but t a x.except)) x.function.steps) IsEarlierTest r
RefusesFunction t base side a x faults.Memory = Unit {0}
RefusesFunction t base side a x _ = ⊥

-- the ends, the function, a conflict or the tree is refused, what comes before being as it should; or memory ran out
pub data RefusesBy (t : DecisionTable) (base : LinearSystem) (side : Side) (a : ℕ) (x : Interval) (fault : ExtremeFault) : Type 0 where
  by_ends : fault ≡ faults.Ends → (AreEnds t x → ⊥) → RefusesBy t base side a x fault
  by_function : AreEnds t x → RefusesFunction t base side a x fault → RefusesBy t base side a x fault
  by_conflict : AreEnds t x → IsProvedOfOne t base side a x → RefusesConflicts t base side a x.conflicts fault
      → RefusesBy t base side a x fault
  by_tree : AreEnds t x → IsProvedOfOne t base side a x → AllByRecursion (IsProvedConflict t base side a) x.conflicts
      → RefusesTree x.conflicts (fewest side (length t.alternatives) x) x.tree fault → RefusesBy t base side a x fault

abbrev pub RefusesInterval : DecisionTable → LinearSystem → Side → ℕ → Interval → ExtremeFault → Type 0
RefusesInterval t base side a x fault = (fault ≡ faults.Memory) ⊎ RefusesBy t base side a x fault

abbrev pub RefusesSaid : DecisionTable → LinearSystem → Side → ℕ → Said → ExtremeFault → Type 0
RefusesSaid t base side a (said.Within x) fault = RefusesInterval t base side a x fault
RefusesSaid t base side a (said.Wide x) fault = ⊥

-- the fault of extreme ranks of which the one at a place is refused
abbrev pub refused_at : ℕ → ExtremeFault → RanksFault
refused_at k faults.Memory = ranks.Memory
refused_at k fault = ranks.Extreme k fault
