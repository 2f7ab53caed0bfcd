-- The steps of a search: a first tree, one node more, one tree more.
use Rattle.std.proofs.Common.{◌≡◌, ◌≢◌, ◌⊎◌, inl, inr, ℕ, ◌+◌, ◌≤◌, List, [], ◌∷◌, ◌++◌, length, length-append, refl, sym, ap, subst, ◌∙◌, arith}
use Rattle.std.specs.List.{range_with_len}
use Rattle.ror_ranks.specs.declared.extreme.Conflict.{Conflict}
use Rattle.ror_ranks.specs.declared.extreme.Node.{Node}
use Rattle.ror_ranks.specs.declared.extreme.Node.TheVariants.{Leaf}
use Rattle.ror_ranks.specs.declared.limits.TheConstants.{MOST_NODES}
use Rattle.ror_ranks.specs.Trees.{root_sets, IsTree}
use Rattle.ror_ranks_find.specs.declared.found.Found.{Found}
use Rattle.ror_ranks_find.specs.declared.growing.Tree.{Tree}
use Rattle.ror_ranks_find.specs.declared.growing.State.{State}
use Rattle.ror_ranks_find.specs.declared.growing.State.TheVariants as states
use Rattle.ror_ranks_find.specs.Search.{HasMore, IsGrowing, IsStopped, IsAdded, IsPut, IsPutNode, IsGrownTo, IsGrown, IsDone}
use Rattle.ror_ranks_find.proofs.GrowLemmas.{node_put, tree_begins, whole_is_tree}

-- ---- the first tree

-- one node is no more than there may be
pub one_node : (conflicts : List Conflict) (x : Tree) (goal : ℕ) (node : Node) (nodes : List Node) → x.goal ≡ goal → x.nodes.items ≡ nodes → nodes ≡ node ∷ [] → IsTree conflicts goal nodes → IsDone conflicts x
one_node conflicts x goal node nodes goals same one tree =
    let long = ap length (same ∙ one) in
    let limit : MOST_NODES ≡ 1000 = refl in
    (subst (λ (g : ℕ). IsTree conflicts g x.nodes.items) (sym goals) (subst (λ (ns : List Node). IsTree conflicts goal ns) (sym same) tree), omega (arith, long, limit))

-- the leaf of no conflict
pub no_conflict : (conflicts : List Conflict) (nodes : List Node) → nodes ≡ Leaf (range_with_len 0 0) ∷ [] → IsTree conflicts 0 nodes
no_conflict conflicts nodes is = subst (λ (ns : List Node). IsTree conflicts 0 ns) (sym is) refl

-- ---- one node more

-- the tree was stopped, unless it is growing
stopped_ends : (found : Found) (x : Tree) (state : State) → x.state ≡ state → IsStopped found x state → x.state ≡ states.Growing → ⊥
stopped_ends found x states.Growing e stopped growing = stopped
stopped_ends found x states.Reached e stopped growing = let no : states.Growing ≡ states.Reached = sym growing ∙ e in absurd cc
stopped_ends found x states.Wide e stopped growing = let no : states.Growing ≡ states.Wide = sym growing ∙ e in absurd cc

pub grown_none : (found : Found) (x : Tree) → x.state ≡ states.Growing → x.nodes.items ≡ [] → x.sets.items ≡ root_sets → IsGrownTo 0 found x
grown_none found x state nodes sets = let none = ap length nodes in inl (tree_begins found x state nodes sets, omega (arith, none), inr none)

-- a tree that is over has grown as far as it does
pub grown_early : (n : ℕ) (found : Found) (x : Tree) → n ≤ MOST_NODES → IsGrownTo n found x → (x.state ≢ states.Growing) ⊎ (x.sets.items ≡ []) → IsGrown found x
grown_early n found x most (inl h) (inl other) = absurd (other h.0.state)
grown_early n found x most (inl h) (inr none) = let few = h.1 in inl (h.0, omega (arith, few, most), inl none)
grown_early n found x most (inr stopped) over = inr stopped

many_by : (n : ℕ) (x : Tree) → (x.sets.items ≡ []) ⊎ (length x.nodes.items ≡ n) → ((x.state ≢ states.Growing) ⊎ (x.sets.items ≡ []) → ⊥) → length x.nodes.items ≡ n
many_by n x (inl none) open_ = absurd (open_ (inr none))
many_by n x (inr many) open_ = many

still : (found : Found) (x : Tree) (state : State) → x.state ≡ state → IsStopped found x state → ((x.state ≢ states.Growing) ⊎ (x.sets.items ≡ []) → ⊥) → ⊥
still found x state e stopped open_ = open_ (inl (λ growing. stopped_ends found x state e stopped growing))

pub grows_on : (n : ℕ) (found : Found) (x : Tree) → IsGrownTo n found x → ((x.state ≢ states.Growing) ⊎ (x.sets.items ≡ []) → ⊥) → IsGrowing found x
grows_on n found x (inl h) open_ = h.0
grows_on n found x (inr stopped) open_ = absurd (still found x x.state refl stopped open_)

pub nodes_so_far : (n : ℕ) (found : Found) (x : Tree) → IsGrownTo n found x → ((x.state ≢ states.Growing) ⊎ (x.sets.items ≡ []) → ⊥) → length x.nodes.items ≡ n
nodes_so_far n found x (inl h) open_ = many_by n x h.2 open_
nodes_so_far n found x (inr stopped) open_ = absurd (still found x x.state refl stopped open_)

grown_by : (n : ℕ) (found : Found) (before now : Tree) → length before.nodes.items ≡ n → (IsGrowing found now × (length now.nodes.items ≡ length before.nodes.items + 1)) ⊎ IsStopped found now now.state → IsGrownTo (n + 1) found now
grown_by n found before now many (inl h) = let long = h.1 in inl (h.0, omega (arith, long, many), inr (omega (arith, long, many)))
grown_by n found before now many (inr stopped) = inr stopped

pub grown_more : (n : ℕ) (found : Found) (before now : Tree) → length before.nodes.items ≡ n → IsAdded found before now → IsGrownTo (n + 1) found now
grown_more n found before now many added = grown_by n found before now many added.1

added_by : (before found : Found) (held opened now : Tree) (set : List ℕ) → HasMore before found → IsGrowing before held → held.sets.items ≡ opened.sets.items ++ set ∷ [] → opened.nodes.items ≡ held.nodes.items
    → opened.goal ≡ held.goal → opened.state ≡ held.state → now.goal ≡ opened.goal → IsPutNode found set opened now ⊎ IsStopped found now now.state
    → (IsGrowing found now × (length now.nodes.items ≡ length held.nodes.items + 1)) ⊎ IsStopped found now now.state
added_by before found held opened now set has growing popped nodes goal state same (inl put) =
    let long = ap length put.nodes ∙ length-append opened.nodes.items (put.node ∷ []) in
    let old = ap length nodes in
    inl (node_put before found held opened now set has growing popped nodes goal state same put, omega (arith, long, old))
added_by before found held opened now set has growing popped nodes goal state same (inr stopped) = inr stopped

-- The tree `held` grew, `opened` is it without its next set, over what is found then, and `now` is what came of it.
pub added_node : (before found : Found) (held opened now : Tree) (set : List ℕ) → HasMore before found → IsGrowing before held → held.sets.items ≡ opened.sets.items ++ set ∷ [] → opened.nodes.items ≡ held.nodes.items
    → opened.goal ≡ held.goal → opened.state ≡ held.state → IsPut found set opened now → IsAdded found held now
added_node before found held opened now set has growing popped nodes goal state put =
    (put.0 ∙ goal, added_by before found held opened now set has growing popped nodes goal state put.0 put.1)

-- ---- one tree more

-- the next tree is whole
pub next_done : (found : Found) (x : Tree) → IsGrown found x → x.state ≡ states.Growing → x.sets.items ≡ [] → IsDone found.conflicts.items x
next_done found x (inl h) state none = (whole_is_tree found x h.0 none, h.1)
next_done found x (inr stopped) state none = absurd (stopped_ends found x x.state refl stopped state)
