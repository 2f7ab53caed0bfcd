-- Trees as they grow: conflicts that come behind others change nothing of what stands, and what one node more leaves.
use Rattle.std.proofs.Common.{◌≡◌, ℕ, zero, suc, ◌+◌, ◌<◌, ◌≤◌, Bool, true, false, List, [], ◌∷◌, ◌++◌, length, map, reverse, Some, None, inl, inr, refl, sym, ap, subst, ◌∙◌, arith}
use Rattle.std.specs.Prelude.{nat_lt, not, ◌==◌, if◌then◌else◌}
use Rattle.std.specs.List.{AllByRecursion}
use Rattle.std.proofs.lemmas.Bool.{and_parts, and_from, ltb-true, lt-ltb}
use Rattle.std.proofs.lemmas.List.{reverse-append, reverse-reverse, length-append, append_assoc, append-nil}
use Rattle.ror_text.proofs.Everywhere.{all-append, all-front, all-back}
use Rattle.ror_ranks.specs.declared.extreme.Conflict.{Conflict}
use Rattle.ror_ranks.specs.declared.extreme.Node.{Node}
use Rattle.ror_ranks.specs.declared.extreme.Node.TheVariants.{Leaf, Branch}
use Rattle.ror_ranks_find.specs.declared.growing.Tree.{Tree}
use Rattle.ror_ranks_find.specs.declared.growing.State.TheVariants as states
use Rattle.ror_ranks_find.specs.declared.found.Found.{Found}
use Rattle.ror_ranks.specs.Trees.{members_at, share, is_apart, are_apart, may_stand, sets_below, sets_left, root_sets, IsTree}
use Rattle.ror_ranks_find.specs.Search.{HasMore, IsGrowing, IsPutNode, IsDone}
use Rattle.ror_ranks.proofs.FaultLemmas.{left_more}

-- ---- conflicts that come behind others

pub members_stay : (conflicts more : List Conflict) (place : ℕ) → place < length conflicts → members_at (conflicts ++ more) place ≡ members_at conflicts place
members_stay [] more place within = absurd (omega arith)
members_stay (c ∷ cs) more zero within = refl
members_stay (c ∷ cs) more (suc place) within = members_stay cs more place (omega arith)

pub apart_within : (conflicts : List Conflict) (set : List ℕ) (place : ℕ) → is_apart conflicts set place ≡ true → place < length conflicts
apart_within conflicts set place apart =
    ltb-true place (length conflicts) (and_parts (nat_lt place (length conflicts)) (not (share (members_at conflicts place) set)) apart).0

pub apart_stays : (conflicts more : List Conflict) (set : List ℕ) (place : ℕ) → is_apart conflicts set place ≡ true → is_apart (conflicts ++ more) set place ≡ true
apart_stays conflicts more set place apart =
    let within = apart_within conflicts set place apart in
    let long = length-append conflicts more in
    let none = (and_parts (nat_lt place (length conflicts)) (not (share (members_at conflicts place) set)) apart).1 in
    and_from (nat_lt place (length (conflicts ++ more))) (not (share (members_at (conflicts ++ more) place) set))
    (lt-ltb place (length (conflicts ++ more)) (omega (arith, within, long)))
    (ap (λ (members : List ℕ). not (share members set)) (members_stay conflicts more place within) ∙ none)

pub places_stay : (conflicts more : List Conflict) (set : List ℕ) (places : List ℕ) → are_apart conflicts set places ≡ true → are_apart (conflicts ++ more) set places ≡ true
places_stay conflicts more set [] apart = refl
places_stay conflicts more set (place ∷ places) apart =
    let parts = and_parts (is_apart conflicts set place) (are_apart conflicts (set ++ members_at conflicts place) places) apart in
    let same = members_stay conflicts more place (apart_within conflicts set place parts.0) in
    let rest = places_stay conflicts more (set ++ members_at conflicts place) places parts.1 in
    and_from (is_apart (conflicts ++ more) set place) (are_apart (conflicts ++ more) (set ++ members_at (conflicts ++ more) place) places)
    (apart_stays conflicts more set place parts.0)
    (ap (λ (members : List ℕ). are_apart (conflicts ++ more) (set ++ members) places) same ∙ rest)

stands_still : (conflicts more : List Conflict) (goal : ℕ) (set : List ℕ) (node : Node) → may_stand conflicts goal set node ≡ true → may_stand (conflicts ++ more) goal set node ≡ true
stands_still conflicts more goal set (Leaf places) stands =
    let parts = and_parts (are_apart conflicts set places) (length set + length places == goal) stands in
    and_from (are_apart (conflicts ++ more) set places) (length set + length places == goal) (places_stay conflicts more set places parts.0) parts.1
stands_still conflicts more goal set (Branch place) stands = apart_stays conflicts more set place stands

below_stays : (conflicts more : List Conflict) (goal : ℕ) (set : List ℕ) (node : Node) → may_stand conflicts goal set node ≡ true → sets_below (conflicts ++ more) set node ≡ sets_below conflicts set node
below_stays conflicts more goal set (Leaf places) stands = refl
below_stays conflicts more goal set (Branch place) stands =
    ap (λ (members : List ℕ). map (λ b. set ++ b ∷ []) members) (members_stay conflicts more place (apart_within conflicts set place stands))

pub left_stays : (conflicts more : List Conflict) (goal : ℕ) (sets left : List (List ℕ)) (nodes : List Node) → sets_left conflicts goal sets nodes ≡ Some left → sets_left (conflicts ++ more) goal sets nodes ≡ Some left
left_stays conflicts more goal sets left [] h = h
left_stays conflicts more goal [] left (node ∷ nodes) h = absurd cc
left_stays conflicts more goal (set ∷ sets) left (node ∷ nodes) h =
    by (may_stand conflicts goal set node) refl h (left_stays conflicts more goal (sets_below conflicts set node ++ sets) left nodes)
  where
    by : (b : Bool) → may_stand conflicts goal set node ≡ b
        → (if b then sets_left conflicts goal (sets_below conflicts set node ++ sets) nodes else None) ≡ Some left
        → (sets_left conflicts goal (sets_below conflicts set node ++ sets) nodes ≡ Some left → sets_left (conflicts ++ more) goal (sets_below conflicts set node ++ sets) nodes ≡ Some left)
        → sets_left (conflicts ++ more) goal (set ∷ sets) (node ∷ nodes) ≡ Some left
    by true stands some rest = rw (stands_still conflicts more goal set node stands, below_stays conflicts more goal set node stands) (rest some)
    by false stands some rest = absurd cc

-- what is found later
module _ (before now : Found) (has : HasMore before now) where
  left_later : (goal : ℕ) (left : List (List ℕ)) (nodes : List Node) → sets_left before.conflicts.items goal root_sets nodes ≡ Some left → sets_left now.conflicts.items goal root_sets nodes ≡ Some left
  left_later goal left nodes h =
      subst (λ (cs : List Conflict). sets_left cs goal root_sets nodes ≡ Some left) (sym has.conflicts) (left_stays before.conflicts.items has.added goal root_sets left nodes h)

  pub done_later : (x : Tree) → IsDone before.conflicts.items x → IsDone now.conflicts.items x
  done_later x done = (left_later x.goal [] x.nodes.items done.0, done.1)

-- nothing came of it
pub has_same : (found : Found) → HasMore found found
has_same found = record { added = []; conflicts = sym (append-nil found.conflicts.items); except = omega arith; noted = []; wide = sym (append-nil found.wide.items) }

pub has_both : (a b c : Found) → HasMore a b → HasMore b c → HasMore a c
has_both a b c one two =
    let first = one.except in
    let second = two.except in record {
      added = one.added ++ two.added;
      conflicts = two.conflicts ∙ ap (λ (cs : List Conflict). cs ++ two.added) one.conflicts ∙ append_assoc a.conflicts.items one.added two.added;
      except = omega (arith, first, second);
      noted = one.noted ++ two.noted;
      wide = two.wide ∙ ap (λ ws. ws ++ two.noted) one.wide ∙ append_assoc a.wide.items one.noted two.noted;
    }

-- ---- the beginning

pub tree_begins : (found : Found) (x : Tree) → x.state ≡ states.Growing → x.nodes.items ≡ [] → x.sets.items ≡ root_sets → IsGrowing found x
tree_begins found x state nodes sets = record {
  state = state;
  left = rw (nodes, sets) refl;
  goal = inl nodes;
  sizes = rw sets (omega arith, tt);
}

-- ---- one node more

-- the sets that a stack holds, the next one last, when that one has gone and others have come on top, the first of them last
stack_more : (front below : List (List ℕ)) → reverse (front ++ reverse below) ≡ below ++ reverse front
stack_more front below = reverse-append front (reverse below) ∙ ap (λ ss. ss ++ reverse front) (reverse-reverse below)

stack_next : (front : List (List ℕ)) (set : List ℕ) → reverse (front ++ set ∷ []) ≡ set ∷ reverse front
stack_next front set = reverse-append front (set ∷ [])

all_turned : (P : List ℕ → Type 0) (xs : List (List ℕ)) → AllByRecursion P xs → AllByRecursion P (reverse xs)
all_turned P [] all = tt
all_turned P (x ∷ xs) all = subst (AllByRecursion P) (sym (reverse-append (x ∷ []) xs)) (all-append P (reverse xs) (x ∷ []) (all_turned P xs all.1) (all.0, tt))

-- where one set is left after the nodes and the next node stands with it
node_more : (conflicts : List Conflict) (goal : ℕ) (nodes : List Node) (set : List ℕ) (sets : List (List ℕ)) (node : Node)
    → sets_left conflicts goal root_sets nodes ≡ Some (set ∷ sets) → may_stand conflicts goal set node ≡ true
    → sets_left conflicts goal root_sets (nodes ++ node ∷ []) ≡ Some (sets_below conflicts set node ++ sets)
node_more conflicts goal nodes set sets node left stands = left_more conflicts goal root_sets (set ∷ sets) nodes (node ∷ []) left ∙ rw stands refl

-- The tree `held` grew, `opened` is it without its next set, over what is found then, and `now` has the node.
pub node_put : (before found : Found) (held opened now : Tree) (set : List ℕ) → HasMore before found → IsGrowing before held
    → held.sets.items ≡ opened.sets.items ++ set ∷ [] → opened.nodes.items ≡ held.nodes.items → opened.goal ≡ held.goal → opened.state ≡ held.state
    → now.goal ≡ opened.goal → IsPutNode found set opened now → IsGrowing found now
node_put before found held opened now set has growing popped nodes goal state same put = record {
  state = put.state ∙ state ∙ growing.state;
  left = ap (λ (g : ℕ). sets_left found.conflicts.items g root_sets now.nodes.items) goals
      ∙ ap (λ (ns : List Node). sets_left found.conflicts.items held.goal root_sets ns) (put.nodes ∙ ap (λ (ns : List Node). ns ++ put.node ∷ []) nodes)
      ∙ node_more found.conflicts.items held.goal held.nodes.items set (reverse opened.sets.items) put.node before_left stands
      ∙ ap Some (sym (ap reverse put.sets ∙ stack_more opened.sets.items (sets_below found.conflicts.items set put.node)));
  goal = inr (let low = put.goal in omega (arith, low, same));
  sizes = subst (λ (g : ℕ). AllByRecursion (λ s. length s ≤ g) now.sets.items) (sym goals)
      (subst (AllByRecursion (λ s. length s ≤ held.goal)) (sym put.sets)
      (all-append (λ s. length s ≤ held.goal) opened.sets.items (reverse (sets_below found.conflicts.items set put.node)) old
      (all_turned (λ s. length s ≤ held.goal) (sets_below found.conflicts.items set put.node) room)));
}
  where
    goals : now.goal ≡ held.goal
    goals = same ∙ goal

    stands : may_stand found.conflicts.items held.goal set put.node ≡ true
    stands = subst (λ (g : ℕ). may_stand found.conflicts.items g set put.node ≡ true) goal put.stands

    before_left : sets_left found.conflicts.items held.goal root_sets held.nodes.items ≡ Some (set ∷ reverse opened.sets.items)
    before_left = left_later before found has held.goal (set ∷ reverse opened.sets.items) held.nodes.items (growing.left ∙ ap Some (ap reverse popped ∙ stack_next opened.sets.items set))

    old : AllByRecursion (λ s. length s ≤ held.goal) opened.sets.items
    old = all-front (λ s. length s ≤ held.goal) opened.sets.items (set ∷ []) (subst (AllByRecursion (λ s. length s ≤ held.goal)) popped growing.sizes)

    room : AllByRecursion (λ s. length s ≤ held.goal) (sets_below found.conflicts.items set put.node)
    room = subst (λ (g : ℕ). AllByRecursion (λ s. length s ≤ g) (sets_below found.conflicts.items set put.node)) goal put.room

-- the next set is no larger than what is to be shown
pub next_size : (found : Found) (held : Tree) (front : List (List ℕ)) (set : List ℕ) → IsGrowing found held → held.sets.items ≡ front ++ set ∷ [] → length set ≤ held.goal
next_size found held front set growing popped =
    (all-back (λ s. length s ≤ held.goal) front (set ∷ []) (subst (AllByRecursion (λ s. length s ≤ held.goal)) popped growing.sizes)).0

-- where all sets have gone, the nodes are a tree
pub whole_is_tree : (found : Found) (x : Tree) → IsGrowing found x → x.sets.items ≡ [] → IsTree found.conflicts.items x.goal x.nodes.items
whole_is_tree found x growing none = growing.left ∙ ap Some (ap reverse none)
