-- What the fields of a chain hold, and how the chain is read from them.
use Rattle.std.specs.Prelude.{◌≡◌, ℕ, ◌-◌, ◌<◌, vec_len, vec_capacity, zero, suc, Option, Some, None, List, [], ◌∷◌, reverse, map, length, slice_set, slice_index_or, if◌then◌else◌}
use Rattle.ror_chain.specs.declared.links.Node.{Node}
use Rattle.ror_chain.specs.declared.links.Links.{Links}
use Rattle.ror_chain.specs.Chain.{Neighbours, ChainState, IsChain}

-- the nodes' links, what the unlinked ones keep, the items, and the ends
pub record Cells (T : Type 0) : Type 0 where
  pub nexts : List (Option ℕ)
  pub previouses : List (Option ℕ)
  pub kept : List (Option Neighbours)
  pub items : List T
  pub first : Option ℕ
  pub last : Option ℕ

abbrev pub kept_of : {T : Type 0} → Node T → Option Neighbours
kept_of x = if x.linked then None else Some (record { previous = x.previous; next = x.next })

abbrev pub cells_of : {T : Type 0} → List (Node T) → Option ℕ → Option ℕ → Cells T
cells_of nodes first last = record {
  nexts = map (λ x. x.next) nodes;
  previouses = map (λ x. x.previous) nodes;
  kept = map kept_of nodes;
  items = map (λ x. x.item) nodes;
  first = first;
  last = last;
}

abbrev pub cells : {T : Type 0} → Links T → Cells T
cells links = cells_of links.nodes.items links.first links.last

-- for how many more nodes there is room
abbrev pub room : {T : Type 0} → Links T → ℕ
room links = vec_capacity links.nodes - vec_len links.nodes

-- the nodes on the way from a node to the end, at most so many
abbrev pub way : List (Option ℕ) → ℕ → Option ℕ → List ℕ
way nexts zero n = []
way nexts (suc most) None = []
way nexts (suc most) (Some n) = n ∷ way nexts most (slice_index_or nexts n None)

abbrev pub state_of : {T : Type 0} → Cells T → ChainState T
state_of c = record { order = way c.nexts (length c.items) c.first; items = c.items; kept = c.kept }

-- the links lead from the node through the list to its end, or to what stands there
abbrev pub Leads : List (Option ℕ) → Option ℕ → List ℕ → Option ℕ → Type 0
Leads links from [] to = from ≡ to
Leads links from (n ∷ ns) to = (from ≡ Some n) × Leads links (slice_index_or links n None) ns to

-- the links lead through the order both ways
pub record IsWhole {T : Type 0} (c : Cells T) : Type 0 where
  pub chain : IsChain (state_of c)
  pub forwards : Leads c.nexts c.first (state_of c).order None
  pub backwards : Leads c.previouses c.last (reverse (state_of c).order) None
  pub nexts_there : length c.nexts ≡ length c.items
  pub previouses_there : length c.previouses ≡ length c.items

-- the node, if it is one, is there and linked
abbrev pub IsLinkedNode : {T : Type 0} → Cells T → Option ℕ → Type 0
IsLinkedNode c node = (n : ℕ) → node ≡ Some n → (n < length c.items) × (slice_index_or c.kept n None ≡ None)

-- the links with that of the node, if it is one, led to another
abbrev pub redirected : List (Option ℕ) → Option ℕ → Option ℕ → List (Option ℕ)
redirected links None to = links
redirected links (Some n) to = slice_set links n to

-- the end of the chain, or another where the node is none
abbrev pub end_by : Option ℕ → Option ℕ → Option ℕ → Option ℕ
end_by end None to = to
end_by end (Some n) to = end

abbrev pub with_next : {T : Type 0} → Cells T → Option ℕ → Option ℕ → Cells T
with_next c node next = record c { nexts = redirected c.nexts node next; first = end_by c.first node next }

abbrev pub with_previous : {T : Type 0} → Cells T → Option ℕ → Option ℕ → Cells T
with_previous c node previous = record c { previouses = redirected c.previouses node previous; last = end_by c.last node previous }
