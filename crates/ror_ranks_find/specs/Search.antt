-- What each step of the search for an extreme rank leaves to the next.
use Rattle.std.specs.Prelude.{◌≡◌, ◌≢◌, ◌⊎◌, ℕ, ◌+◌, ◌<◌, ◌≤◌, Bool, true, false, nat_eq, slice_get, List, [], ◌∷◌, ◌++◌, length, reverse, map, Some}
use Rattle.std.specs.List.{AllByRecursion, flat_map}
use Rattle.std.specs.Set.{is_member}
use Rattle.ror_word.specs.Within.{IsWithin as FitsWithin}
use Rattle.ror_table.specs.Table.{DecisionTable, IsTable, columns}
use Rattle.ror_statement.specs.declared.row_number.TheConstants.{MOST_ROWS}
use Rattle.ror_system.specs.System.{LinearSystem}
use Rattle.ror_system.specs.Acceptance.{IsAcceptedSolution, AreAcceptedMultipliers}
use Rattle.ror_system.specs.declared.accept.Solution.{Solution}
use Rattle.ror_pivot.specs.Answers.{most_of}
use Rattle.ror_pivot.specs.declared.note.SolveFault.TheVariants.{Wide}
use Rattle.ror_warm.specs.Engine.{IsFaultOf}
use Rattle.ror_ranks.specs.declared.extreme.Side.{Side}
use Rattle.ror_ranks.specs.declared.extreme.Side.TheVariants.{Best, Worst}
use Rattle.ror_ranks.specs.declared.extreme.Conflict.{Conflict}
use Rattle.ror_ranks.specs.declared.extreme.Node.{Node}
use Rattle.ror_ranks.specs.declared.extreme.Node.TheVariants.{Leaf, Branch}
use Rattle.ror_ranks.specs.declared.extreme.Interval.{Interval}
use Rattle.ror_ranks.specs.declared.extreme.WideExtreme.{WideExtreme}
use Rattle.ror_ranks.specs.declared.extreme.Said.{Said}
use Rattle.ror_ranks.specs.declared.extreme.Said.TheVariants as said
use Rattle.ror_ranks.specs.declared.extreme.Extreme.{Extreme}
use Rattle.ror_ranks_find.specs.declared.fault.RankingFault.{RankingFault}
use Rattle.ror_ranks_find.specs.declared.fault.RankingFault.TheVariants as faults
use Rattle.ror_ranks.specs.declared.limits.TheConstants.{MOST_NODES}
use Rattle.ror_ranks.specs.declared.sides.Asked.{Asked}
use Rattle.ror_ranks_find.specs.declared.sought.Sought.{Sought}
use Rattle.ror_ranks_find.specs.declared.sought.Tried.{Tried}
use Rattle.ror_ranks_find.specs.declared.sought.Tried.TheVariants as tried
use Rattle.ror_ranks_find.specs.declared.found.Found.{Found}
use Rattle.ror_ranks_find.specs.declared.packing.Packing.{Packing}
use Rattle.ror_ranks_find.specs.declared.growing.Tree.{Tree}
use Rattle.ror_ranks_find.specs.declared.growing.State.{State}
use Rattle.ror_ranks_find.specs.declared.growing.State.TheVariants as states
use Rattle.ror_ranks_find.specs.declared.shown.Shown.{Shown}
use Rattle.ror_ranks_find.specs.declared.find.Over.{Over}
use Rattle.ror_ranks.specs.Conflicts.{are_others, side_system, IsProvedConflict, IsReached}
use Rattle.ror_ranks.specs.Trees.{members_at, is_apart, are_apart, may_stand, sets_below, sets_left, root_sets, IsTree}
use Rattle.ror_ranks.specs.Proof.{IsProvedInterval, fewest, allowed}
use Rattle.ror_ranks.specs.Finding.{AreWithin, IsWideExtreme, IsGivenSaid, IsNarrowInterval, IsFew}
use Rattle.ror_ranks.specs.Steps.{IsAsked}

-- ---- what is sought, and what one system comes to

abbrev pub IsSought : Sought → Type 0
IsSought s = IsAsked s.asked

-- what is said over the table and the base that are asked for, on the side of the alternative
abbrev pub OfAsked : {A : Type 1} → (DecisionTable → LinearSystem → Side → ℕ → A) → Asked → A
OfAsked P x = P x.table.now x.base.now x.side x.alternative

-- the system of the functions by which none of these counts
abbrev pub system_without : Asked → List ℕ → LinearSystem
system_without x members = side_system x.table.now x.base.now x.side x.alternative members

-- another alternative of the table
abbrev pub IsOther : Asked → ℕ → Type 0
IsOther x b = are_others x.table.now x.alternative (b ∷ []) ≡ true

-- the conflict is proved, and none of its multipliers passes the width
abbrev pub IsConflictFor : Sought → Conflict → Type 0
IsConflictFor s c = OfAsked IsProvedConflict s.asked c × AreWithin (most_of s.bits) c.multipliers

abbrev pub AreConflictsFor : Sought → List Conflict → Type 0
AreConflictsFor s cs = AllByRecursion (IsConflictFor s) cs

-- by the function none but these counts, and none of its steps passes the width
abbrev pub IsReachedFor : Sought → List ℕ → Solution → Type 0
IsReachedFor s except x = OfAsked IsReached s.asked except x × AllByRecursion (FitsWithin (most_of s.bits)) x.steps

-- the function solves the base
abbrev pub IsBaseFunction : Sought → Solution → Type 0
IsBaseFunction s x = IsAcceptedSolution s.asked.base.now x.steps × AllByRecursion (FitsWithin (most_of s.bits)) x.steps

abbrev pub IsWideFor : Sought → WideExtreme → Type 0
IsWideFor s x = OfAsked (IsWideExtreme (most_of s.bits)) s.asked x

-- what the system without these comes to
abbrev pub IsTried : Sought → List ℕ → Tried → Type 0
IsTried s members (tried.Function x) = IsAcceptedSolution (system_without s.asked members) x.steps
    × AllByRecursion (FitsWithin (most_of s.bits)) x.steps
IsTried s members (tried.Conflict c) = (c.members ≡ members) × IsConflictFor s c
IsTried s members (tried.Wide x) = (x.members ≡ members) × IsWideFor s x

-- ---- what is found

pub record IsFoundFor (s : Sought) (x : Found) : Type 0 where
  pub conflicts : AreConflictsFor s x.conflicts.items
  pub few : length x.conflicts.items ≤ 4294967295
  pub reached : IsReachedFor s x.except x.function
  pub wide : AllByRecursion (IsWideFor s) x.wide.items

-- more is found: conflicts stand behind those that were there, no more alternatives may count by the function, and what was too wide
-- is kept
pub record HasMore (before now : Found) : Type 0 where
  pub added : List Conflict
  pub conflicts : now.conflicts.items ≡ before.conflicts.items ++ added
  pub except : length now.except ≤ length before.except
  pub noted : List WideExtreme
  pub wide : now.wide.items ≡ before.wide.items ++ noted

-- ---- making a conflict small

-- each of the second is one of the first
abbrev pub AreAmong : List ℕ → List ℕ → Type 0
AreAmong whole part = AllByRecursion (λ b. is_member nat_eq whole b ≡ true) part

-- some of these members, a set of other alternatives
abbrev pub IsPartOf : Asked → List ℕ → List ℕ → Type 0
IsPartOf x whole part = (are_others x.table.now x.alternative part ≡ true) × AreAmong whole part

-- one conflict, whose members are among those of the one that there was
pub record IsOneWithin (s : Sought) (before now : List Conflict) : Type 0 where
  pub conflicts : AreConflictsFor s now
  pub one : length now ≡ 1
  pub within : AreAmong (members_at before 0) (members_at now 0)

-- ---- packings

-- The conflicts at the places share no member with the set or with each other; the packing meets the set and all their members; and it
-- isn't larger than is wanting.
pub record IsPacking (conflicts : List Conflict) (set : List ℕ) (goal : ℕ) (x : Packing) : Type 0 where
  pub apart : are_apart conflicts set x.places.items ≡ true
  pub met : x.met.items ≡ set ++ flat_map (members_at conflicts) x.places.items
  pub size : x.size ≡ length set
  pub within : x.size + length x.places.items ≤ goal

-- Such a packing. Where it is too small, by the function that is kept no more may count than the packing meets, or something is too wide.
pub record IsPacked (found : Found) (set : List ℕ) (goal : ℕ) (x : Packing) : Type 0 where
  pub packing : IsPacking found.conflicts.items set goal x
  pub short : x.size + length x.places.items < goal
      → (length found.except ≤ length x.met.items) ⊎ (found.wide.items ≢ [])

-- the packing has a conflict more, or none was found
abbrev pub IsTakenConflict : Found → Packing → Packing → Type 0
IsTakenConflict found before now = (place : ℕ) × (is_apart found.conflicts.items before.met.items place ≡ true)
    × (now.places.items ≡ before.places.items ++ place ∷ [])
    × (now.met.items ≡ before.met.items ++ members_at found.conflicts.items place)
    × (now.size ≡ before.size)

abbrev pub IsTaken : Found → Packing → Packing → Bool → Type 0
IsTaken found before now true = IsTakenConflict found before now
IsTaken found before now false = (now ≡ before)
    × ((length found.except ≤ length before.met.items) ⊎ (found.wide.items ≢ []))

-- ---- trees

-- The nodes may stand, and the sets are left, the next one last. Behind a node fewer don't count by the function that is kept.
pub record IsGrowing (found : Found) (x : Tree) : Type 0 where
  pub state : x.state ≡ states.Growing
  pub left : sets_left found.conflicts.items x.goal root_sets x.nodes.items ≡ Some (reverse x.sets.items)
  pub goal : (x.nodes.items ≡ []) ⊎ (x.goal ≤ length found.except)
  pub sizes : AllByRecursion (λ set. length set ≤ x.goal) x.sets.items

-- why a tree doesn't grow on
abbrev pub IsStopped : Found → Tree → State → Type 0
IsStopped found x states.Growing = ⊥
IsStopped found x states.Reached = length found.except < x.goal
IsStopped found x states.Wide = found.wide.items ≢ []

-- a tree has one node more, or is stopped
abbrev pub IsAdded : Found → Tree → Tree → Type 0
IsAdded found before now = (now.goal ≡ before.goal)
    × ((IsGrowing found now × (length now.nodes.items ≡ length before.nodes.items + 1)) ⊎ IsStopped found now now.state)

-- a branch at this conflict
pub record IsPutBranch (found : Found) (set : List ℕ) (place : ℕ) (before now : Tree) : Type 0 where
  pub nodes : now.nodes.items ≡ before.nodes.items ++ Branch place ∷ []
  pub sets : now.sets.items ≡ before.sets.items ++ reverse (map (λ b. set ++ b ∷ []) (members_at found.conflicts.items place))
  pub goal : now.goal ≡ before.goal
  pub state : now.state ≡ before.state

-- The set, which was the next, has a node that may stand, behind which the sets below it are left; none of these is larger than what is to
-- be shown.
pub record IsPutNode (found : Found) (set : List ℕ) (before now : Tree) : Type 0 where
  pub node : Node
  pub stands : may_stand found.conflicts.items before.goal set node ≡ true
  pub nodes : now.nodes.items ≡ before.nodes.items ++ node ∷ []
  pub sets : now.sets.items ≡ before.sets.items ++ reverse (sets_below found.conflicts.items set node)
  pub state : now.state ≡ before.state
  pub goal : before.goal ≤ length found.except
  pub room : AllByRecursion (λ below. length below ≤ before.goal) (sets_below found.conflicts.items set node)

-- the set has a node so, or the tree is stopped
abbrev pub IsPut : Found → List ℕ → Tree → Tree → Type 0
IsPut found set before now = (now.goal ≡ before.goal) × (IsPutNode found set before now ⊎ IsStopped found now now.state)

-- the same where a packing of these conflicts is too small to end the tree here, or is not
abbrev pub IsPutBy : Found → List ℕ → List ℕ → Bool → Tree → Tree → Type 0
IsPutBy found set places false before now = (now.nodes.items ≡ before.nodes.items ++ Leaf places ∷ [])
    × (now.sets ≡ before.sets) × (now.goal ≡ before.goal) × (now.state ≡ before.state)
IsPutBy found set [] true before now = (now.nodes ≡ before.nodes) × (now.goal ≡ before.goal) × (now.state ≡ states.Wide)
IsPutBy found set (place ∷ places) true before now = IsPutBranch found set place before now

-- what has come of a tree after so many nodes were to be put: it has all its nodes, or so many, or it is stopped
abbrev pub IsGrownTo : ℕ → Found → Tree → Type 0
IsGrownTo count found x = (IsGrowing found x × (length x.nodes.items ≤ count) × ((x.sets.items ≡ []) ⊎ (length x.nodes.items ≡ count)))
    ⊎ IsStopped found x x.state

abbrev pub IsGrown : Found → Tree → Type 0
IsGrown found x = IsGrownTo MOST_NODES found x

-- the nodes are a tree, of no more than there may be
abbrev pub IsDone : List Conflict → Tree → Type 0
IsDone conflicts x = IsTree conflicts x.goal x.nodes.items × (length x.nodes.items ≤ MOST_NODES)

-- ---- what is said

-- each conflict is one of these
abbrev pub AreCopiedFrom : List Conflict → List Conflict → Type 0
AreCopiedFrom conflicts copies = AllByRecursion (λ c. (place : ℕ) × (slice_get conflicts place ≡ Some c)) copies

-- each is one of these, and the nodes are a tree over them
abbrev pub IsShownBy : List Conflict → ℕ → Shown → Type 0
IsShownBy conflicts goal x = AreCopiedFrom conflicts x.conflicts.items × (length x.conflicts.items ≤ length conflicts)
    × IsTree x.conflicts.items goal x.nodes.items × (length x.nodes.items ≤ MOST_NODES)

-- the ends of an interval that has these bounds, of all functions and of one
abbrev pub ends_by : Side → ℕ → ℕ → ℕ × ℕ
ends_by Best all one = (all, one)
ends_by Worst all one = (one, all)

-- the interval from what the tree shows to what the function does
pub record IsIntervalOf (s : Sought) (found : Found) (done : Tree) (x : Interval) : Type 0 where
  pub proved : OfAsked IsProvedInterval s.asked x
  pub narrow : IsNarrowInterval (most_of s.bits) x
  pub few : IsFew x
  pub of_all : fewest s.asked.side (length s.asked.table.now.alternatives) x ≡ done.goal
  pub of_one : allowed s.asked.side (length s.asked.table.now.alternatives) x ≡ length found.except

abbrev pub IsWithin : Sought → Found → Tree → Said → Type 0
IsWithin s found done (said.Within x) = IsIntervalOf s found done x
IsWithin s found done (said.Wide x) = ⊥

-- the last of what was too wide
abbrev pub IsLastWide : List WideExtreme → Said → Type 0
IsLastWide wide (said.Within x) = ⊥
IsLastWide wide (said.Wide x) = (front : List WideExtreme) × (wide ≡ front ++ x ∷ [])

-- something is too wide, where the next tree is stopped by that, else the interval
abbrev pub IsConcluded : Sought → Found → Tree → State → Said → Type 0
IsConcluded s found done state x = ((state ≡ states.Wide) × IsLastWide found.wide.items x)
    ⊎ (((state ≡ states.Wide → found.wide.items ≡ [])) × IsWithin s found done x)

abbrev pub IsSaidOf : Sought → Said → Type 0
IsSaidOf s x = OfAsked (IsGivenSaid (most_of s.bits)) s.asked x

-- the function solves the base, and none of its steps passes most
abbrev pub HasFunction : ℕ → LinearSystem → Solution → Type 0
HasFunction most s x = IsAcceptedSolution s x.steps × AllByRecursion (FitsWithin most) x.steps

-- the base is refused at a width: it is not solvable, or a number on its path is too wide; or memory ran out
abbrev pub RefusesBase : ℕ → LinearSystem → RankingFault → Type 0
RefusesBase most s (faults.Contradictory m) = AreAcceptedMultipliers s m.weak m.strict × AreWithin most m
RefusesBase most s (faults.BaseWide note) = IsFaultOf most s (Wide note)
RefusesBase most s faults.Memory = Unit {0}

-- a base over the table, with room for rows on a side, and a function that solves it
pub record IsOver (x : Over) : Type 0 where
  pub table : IsTable x.table.now
  pub columns_same : x.base.now.columns ≡ columns x.table.now
  pub few_rows : length x.base.now.weak + length x.base.now.strict ≤ MOST_ROWS
  pub function : HasFunction (most_of x.bits) x.base.now x.function.now

-- what is said of the extreme rank of the alternative on the side stands behind what was there
abbrev pub IsPushed : Over → ℕ → Side → List Extreme → List Extreme → Type 0
IsPushed x a side before now = (y : Said) × IsGivenSaid (most_of x.bits) x.table.now x.base.now side a y
    × (now ≡ before ++ record { alternative = a; side = side; said = y } ∷ [])
