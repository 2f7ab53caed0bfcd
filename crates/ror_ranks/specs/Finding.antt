-- What is said of the extreme ranks of a list when they are sought, at a width.
use Rattle.std.specs.Prelude.{◌≡◌, ◌≢◌, ◌⊎◌, ℕ, ◌<◌, ◌≤◌, ◌^◌, List, [], length, true, Some}
use Rattle.std.specs.List.{AllByRecursion}
use Rattle.ror_word.specs.Within.{IsWithin}
use Rattle.ror_statement.specs.declared.statement.Statement.{Statement}
use Rattle.ror_table.specs.Table.{DecisionTable}
use Rattle.ror_system.specs.System.{LinearSystem}
use Rattle.ror_system.specs.Acceptance.{AreAcceptedMultipliers}
use Rattle.ror_system.specs.declared.accept.Multipliers.{Multipliers}
use Rattle.ror_value.specs.Meaning.{IsConsistent, IsContradictory}
use Rattle.ror_check.specs.Proof.{base_system}
use Rattle.ror_pivot.specs.declared.note.Place.{Place}
use Rattle.ror_pivot.specs.declared.note.SolveFault.TheVariants.{Wide}
use Rattle.ror_pivot.specs.Notes.{IsWideNote}
use Rattle.ror_warm.specs.Engine.{IsFaultOf}
use Rattle.ror_ranks.specs.declared.extreme.Side.{Side}
use Rattle.ror_ranks.specs.declared.extreme.Conflict.{Conflict}
use Rattle.ror_ranks.specs.declared.extreme.Node.{Node}
use Rattle.ror_ranks.specs.declared.extreme.Interval.{Interval}
use Rattle.ror_ranks.specs.declared.extreme.WideExtreme.{WideExtreme}
use Rattle.ror_ranks.specs.declared.extreme.Said.{Said}
use Rattle.ror_ranks.specs.declared.extreme.Said.TheVariants as said
use Rattle.ror_ranks.specs.declared.extreme.Extreme.{Extreme}
use Rattle.ror_ranks.specs.declared.limits.TheConstants.{MOST_NODES}
use Rattle.ror_ranks.specs.Conflicts.{are_others, side_system, IsProvedConflict}
use Rattle.ror_ranks.specs.Trees.{sets_left, root_sets}
use Rattle.ror_ranks.specs.Proof.{IsProvedInterval, AreDue, AreTrueRanks, fewest, allowed}

-- ---- intervals

-- no number of the multipliers passes most
abbrev pub AreWithin : ℕ → Multipliers → Type 0
AreWithin most m = AllByRecursion (IsWithin most) m.weak × AllByRecursion (IsWithin most) m.strict

-- no number of the function and of the conflicts does
pub record IsNarrowInterval (most : ℕ) (x : Interval) : Type 0 where
  pub function : AllByRecursion (IsWithin most) x.function.steps
  pub conflicts : AllByRecursion (λ c. AreWithin most c.multipliers) x.conflicts

-- A tree is not whole after as many nodes as there may be. It would show that more count than the interval says, and no more than may
-- count by its function.
pub record IsCutShort (t : DecisionTable) (base : LinearSystem) (side : Side) (a : ℕ) (x : Interval) : Type 0 where
  pub goal : ℕ
  pub more : fewest side (length t.alternatives) x < goal
  pub may_be : goal ≤ allowed side (length t.alternatives) x
  pub conflicts : List Conflict
  pub proved : AllByRecursion (IsProvedConflict t base side a) conflicts
  pub nodes : List Node
  pub many : length nodes ≡ MOST_NODES
  pub sets : List (List ℕ)
  pub left : sets_left conflicts goal root_sets nodes ≡ Some sets
  pub some_set : sets ≢ []

-- the tree has no more nodes than there may be, and the conflicts can be counted in 32 bits
pub record IsFew (x : Interval) : Type 0 where
  pub conflicts : length x.conflicts < 2 ^ 32
  pub nodes : length x.tree ≤ MOST_NODES

-- The interval is proved, no number of it passes most, and it is one rank, unless a tree was cut short.
pub record IsGivenInterval (most : ℕ) (t : DecisionTable) (base : LinearSystem) (side : Side) (a : ℕ) (x : Interval) : Type 0 where
  pub proved : IsProvedInterval t base side a x
  pub narrow : IsNarrowInterval most x
  pub few : IsFew x
  pub one : (x.from ≡ x.to) ⊎ IsCutShort t base side a x

-- ---- what is too wide

-- this is the first number that passes most on the path of the system of the functions by which none of these alternatives counts
pub record IsWideExtreme (most : ℕ) (t : DecisionTable) (base : LinearSystem) (side : Side) (a : ℕ) (x : WideExtreme) : Type 0 where
  pub others : are_others t a x.members ≡ true
  pub noted : IsFaultOf most (side_system t base side a x.members) (Wide x.note)

-- ---- extreme ranks

abbrev pub IsGivenSaid : ℕ → DecisionTable → LinearSystem → Side → ℕ → Said → Type 0
IsGivenSaid most t base side a (said.Within x) = IsGivenInterval most t base side a x
IsGivenSaid most t base side a (said.Wide x) = IsWideExtreme most t base side a x

abbrev pub IsGivenExtreme : ℕ → DecisionTable → LinearSystem → Extreme → Type 0
IsGivenExtreme most t base x = IsGivenSaid most t base x.side x.alternative x.said

-- over a consistent list each alternative has its best and its worst rank, in order, and what is said of them is true
pub record AreGivenRanks (most : ℕ) (t : DecisionTable) (list : List Statement) (xs : List Extreme) : Type 0 where
  pub consistent : IsConsistent t list
  pub due : AreDue t xs
  pub each : AllByRecursion (IsGivenExtreme most t (base_system t list)) xs
  pub true_ranks : AreTrueRanks t list xs

-- the multipliers show that the list is contradictory, and none of them passes most
pub record IsRefuted (most : ℕ) (t : DecisionTable) (list : List Statement) (m : Multipliers) : Type 0 where
  pub contradictory : IsContradictory t list
  pub accepted : AreAcceptedMultipliers (base_system t list) m.weak m.strict
  pub narrow : AreWithin most m

-- no number on the path of the system passes most
abbrev pub HasNoWideNote : ℕ → LinearSystem → Type 0
HasNoWideNote most s = (path : List (ℕ × ℕ)) (place : Place) → IsWideNote most s path place → ⊥
