-- Trees that show how many alternatives it takes to meet all conflicts.
use Rattle.std.specs.Prelude.{◌≡◌, ℕ, ◌+◌, Bool, true, not, ◌&&◌, ◌==◌, nat_eq, nat_lt, List, [], ◌∷◌, ◌++◌, length, map, Option, Some, None, slice_get, if◌then◌else◌}
use Rattle.std.specs.List.{list_any}
use Rattle.std.specs.Set.{is_member}
use Rattle.ror_ranks.specs.declared.extreme.Conflict.{Conflict}
use Rattle.ror_ranks.specs.declared.extreme.Node.{Node}
use Rattle.ror_ranks.specs.declared.extreme.Node.TheVariants.{Leaf, Branch}

-- the members of the conflict at a place
abbrev pub members_in : Option Conflict → List ℕ
members_in None = []
members_in (Some c) = c.members

abbrev pub members_at : List Conflict → ℕ → List ℕ
members_at conflicts place = members_in (slice_get conflicts place)

-- some one of the first is one of the second
abbrev pub share : List ℕ → List ℕ → Bool
share xs ys = list_any (λ x. is_member nat_eq ys x) xs

-- a conflict stands at the place, and shares no member with the set
abbrev pub is_apart : List Conflict → List ℕ → ℕ → Bool
is_apart conflicts set place = nat_lt place (length conflicts) && not (share (members_at conflicts place) set)

-- so do these, and none shares a member with another
abbrev pub are_apart : List Conflict → List ℕ → List ℕ → Bool
are_apart conflicts set [] = true
are_apart conflicts set (place ∷ places) =
    is_apart conflicts set place && are_apart conflicts (set ++ members_at conflicts place) places

-- The node may be reached with this set, where so many alternatives are to be shown: a leaf with as many conflicts as are wanting,
-- or a branch at a conflict that the set doesn't meet.
abbrev pub may_stand : List Conflict → ℕ → List ℕ → Node → Bool
may_stand conflicts goal set (Leaf places) =
    are_apart conflicts set places && (length set + length places == goal)
may_stand conflicts goal set (Branch place) = is_apart conflicts set place

-- the sets with which the trees right below a node are reached: one for each member of its conflict, which joins the set
abbrev pub sets_below : List Conflict → List ℕ → Node → List (List ℕ)
sets_below conflicts set (Leaf places) = []
sets_below conflicts set (Branch place) = map (λ b. set ++ b ∷ []) (members_at conflicts place)

-- The nodes of trees that are reached with these sets, one tree for each, each node before those below it. What is left are the sets
-- that no node is reached with; nothing, where some node may not stand, or is one too many.
abbrev pub sets_left : List Conflict → ℕ → List (List ℕ) → List Node → Option (List (List ℕ))
sets_left conflicts goal sets [] = Some sets
sets_left conflicts goal [] (node ∷ nodes) = None
sets_left conflicts goal (set ∷ sets) (node ∷ nodes) = if may_stand conflicts goal set node
    then sets_left conflicts goal (sets_below conflicts set node ++ sets) nodes else None

-- a tree is first reached with the empty set
abbrev pub root_sets : List (List ℕ)
root_sets = [] ∷ []

-- the nodes are all of one tree, which shows that it takes so many alternatives to meet all conflicts
abbrev pub IsTree : List Conflict → ℕ → List Node → Type 0
IsTree conflicts goal nodes = sets_left conflicts goal root_sets nodes ≡ Some []
