-- Each test of extreme ranks that may fail, and their order.
use Rattle.std.specs.Prelude.{◌≡◌, ◌≢◌, ◌⊎◌, ℕ, ◌+◌, ◌*◌, false, List, [], ◌∷◌, length, take, slice_get, Some}
use Rattle.ror_text.specs.FirstFault.{IsFirst, IsEarlier}
use Rattle.ror_statement.specs.declared.statement.Statement.{Statement}
use Rattle.ror_table.specs.Table.{DecisionTable}
use Rattle.ror_system.specs.System.{LinearSystem}
use Rattle.ror_system.specs.Acceptance.{FailsSolution, FailsMultipliers, IsEarlierTest}
use Rattle.ror_check.specs.Proof.{base_system}
use Rattle.ror_system.specs.declared.reject.Reject.{Reject}
use Rattle.ror_ranks.specs.declared.extreme.Side.{Side}
use Rattle.ror_ranks.specs.declared.extreme.Conflict.{Conflict}
use Rattle.ror_ranks.specs.declared.extreme.Node.{Node}
use Rattle.ror_ranks.specs.declared.extreme.Interval.{Interval}
use Rattle.ror_ranks.specs.declared.extreme.Said.{Said}
use Rattle.ror_ranks.specs.declared.extreme.Said.TheVariants as said
use Rattle.ror_ranks.specs.declared.extreme.Extreme.{Extreme}
use Rattle.ror_ranks.specs.declared.fault.ExtremeFault.{ExtremeFault}
use Rattle.ror_ranks.specs.declared.fault.ExtremeFault.TheVariants as faults
use Rattle.ror_ranks.specs.declared.fault.RanksFault.{RanksFault}
use Rattle.ror_ranks.specs.declared.fault.RanksFault.TheVariants as ranks
use Rattle.ror_ranks.specs.Conflicts.{are_others, others_but, side_system}
use Rattle.ror_ranks.specs.Trees.{may_stand, sets_left, root_sets}
use Rattle.ror_ranks.specs.Proof.{AreEnds, AreDue, fewest, allowed}

-- ---- one interval

-- the conflict at a place has no set of others for its members
pub record FailsMembers (t : DecisionTable) (a : ℕ) (conflicts : List Conflict) (place : ℕ) : Type 0 where
  pub conflict : Conflict
  pub there : slice_get conflicts place ≡ Some conflict
  pub no_others : are_others t a conflict.members ≡ false

-- its multipliers are not accepted, for this reason first
pub record FailsConflict (t : DecisionTable) (base : LinearSystem) (side : Side) (a : ℕ) (conflicts : List Conflict) (place : ℕ) (r : Reject) : Type 0 where
  pub conflict : Conflict
  pub there : slice_get conflicts place ≡ Some conflict
  pub rejected : IsFirst (FailsMultipliers (side_system t base side a conflict.members)
      conflict.multipliers.weak conflict.multipliers.strict) IsEarlierTest r

-- the node may not stand with the first of these sets, or there is none
abbrev pub MayNotStand : List Conflict → ℕ → List (List ℕ) → Node → Type 0
MayNotStand conflicts goal [] node = Unit {0}
MayNotStand conflicts goal (set ∷ sets) node = may_stand conflicts goal set node ≡ false

-- the nodes before this one may stand, and it may not
pub record FailsNode (conflicts : List Conflict) (goal : ℕ) (nodes : List Node) (place : ℕ) : Type 0 where
  pub node : Node
  pub sets : List (List ℕ)
  pub there : slice_get nodes place ≡ Some node
  pub before : sets_left conflicts goal root_sets (take place nodes) ≡ Some sets
  pub stands_not : MayNotStand conflicts goal sets node

-- all nodes may stand, and a set is left
pub record IsUnfinished (conflicts : List Conflict) (goal : ℕ) (nodes : List Node) : Type 0 where
  pub set : List ℕ
  pub sets : List (List ℕ)
  pub left : sets_left conflicts goal root_sets nodes ≡ Some (set ∷ sets)

-- the exceptions are no set of others, or not as many as may count
abbrev pub FailsExcept : DecisionTable → Side → ℕ → Interval → Type 0
FailsExcept t side a x = (are_others t a x.except ≡ false)
    ⊎ (length x.except ≢ allowed side (length t.alternatives) x)

-- what each test finds at fault, each test taken alone
abbrev pub FailsInterval : DecisionTable → LinearSystem → Side → ℕ → Interval → ExtremeFault → Type 0
FailsInterval t base side a x faults.Ends = AreEnds t x → ⊥
FailsInterval t base side a x faults.Except = FailsExcept t side a x
FailsInterval t base side a x (faults.Function r) =
    IsFirst (FailsSolution (side_system t base side a (others_but t a x.except)) x.function.steps) IsEarlierTest r
FailsInterval t base side a x (faults.Members place) = FailsMembers t a x.conflicts place
FailsInterval t base side a x (faults.Conflict place r) = FailsConflict t base side a x.conflicts place r
FailsInterval t base side a x (faults.Node place) =
    FailsNode x.conflicts (fewest side (length t.alternatives) x) x.tree place
FailsInterval t base side a x faults.Unfinished =
    IsUnfinished x.conflicts (fewest side (length t.alternatives) x) x.tree
FailsInterval t base side a x faults.Memory = ⊥

-- what is too wide is never at fault
abbrev pub FailsSaid : DecisionTable → LinearSystem → Side → ℕ → Said → ExtremeFault → Type 0
FailsSaid t base side a (said.Within x) fault = FailsInterval t base side a x fault
FailsSaid t base side a (said.Wide x) fault = ⊥

-- the tests in their order
abbrev pub extreme_stage : ExtremeFault → ℕ
extreme_stage faults.Ends = 0
extreme_stage faults.Except = 1
extreme_stage (faults.Function r) = 2
extreme_stage (faults.Members place) = 3
extreme_stage (faults.Conflict place r) = 3
extreme_stage (faults.Node place) = 4
extreme_stage _ = 5

-- in a stage the earlier place comes first, and of one conflict its members
abbrev pub extreme_place : ExtremeFault → ℕ
extreme_place (faults.Members place) = 2 * place
extreme_place (faults.Conflict place r) = 2 * place + 1
extreme_place (faults.Node place) = place
extreme_place _ = 0

abbrev pub IsEarlierExtremeFault : ExtremeFault → ExtremeFault → Type 0
IsEarlierExtremeFault = IsEarlier extreme_stage extreme_place

-- ---- all extreme ranks over a list

-- the one at a place, counted from 1, has this fault first
pub record FailsExtremeAt (t : DecisionTable) (list : List Statement) (xs : List Extreme) (k : ℕ) (fault : ExtremeFault) : Type 0 where
  pub extreme : Extreme
  pub before : ℕ
  pub counted : k ≡ before + 1
  pub there : slice_get xs before ≡ Some extreme
  pub first : IsFirst (FailsSaid t (base_system t list) extreme.side extreme.alternative extreme.said) IsEarlierExtremeFault fault

abbrev pub FailsRanks : DecisionTable → List Statement → List Extreme → RanksFault → Type 0
FailsRanks t list xs ranks.NotDue = AreDue t xs → ⊥
FailsRanks t list xs (ranks.Extreme k fault) = FailsExtremeAt t list xs k fault
FailsRanks t list xs ranks.Memory = ⊥

abbrev pub ranks_stage : RanksFault → ℕ
ranks_stage ranks.NotDue = 0
ranks_stage _ = 1

abbrev pub ranks_place : RanksFault → ℕ
ranks_place (ranks.Extreme k fault) = k
ranks_place _ = 0

-- whether each is due, and then one after another
abbrev pub IsEarlierRanksFault : RanksFault → RanksFault → Type 0
IsEarlierRanksFault = IsEarlier ranks_stage ranks_place
