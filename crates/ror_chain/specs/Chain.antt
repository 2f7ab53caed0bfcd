-- Chains: which nodes are linked and in which order, what each node holds, and which neighbours an unlinked one keeps.
use Rattle.std.specs.Prelude.{◌≡◌, ℕ, ◌-◌, ◌<◌, ◌==◌, ◌↔◌, nat_eq, not, Option, Some, None, unwrap_or, List, [], ◌∷◌, ◌++◌, reverse, length, slice_get, slice_set, slice_index_or, if◌then◌else◌}
use Rattle.std.specs.List.{filter, filter_map, fold, All, Contains, IsDistinct}

-- what stands on either side of a node, by number; nothing where the chain ends
pub record Neighbours : Type 0 where
  pub previous : Option ℕ
  pub next : Option ℕ

-- nodes that are numbered from 0: the linked ones in order, the item of each, and for each what it keeps
pub record ChainState (T : Type 0) : Type 0 where
  pub order : List ℕ
  pub items : List T
  pub kept : List (Option Neighbours)

-- a chain, by its nodes, and for how many more of them there is room
pub record ChainView (T : Type 0) : Type 0 where
  pub state : ChainState T
  pub spare : ℕ

-- ---- the order

abbrev pub first_of : List ℕ → Option ℕ
first_of [] = None
first_of (n ∷ ns) = Some n

abbrev pub last_of : List ℕ → Option ℕ
last_of order = first_of (reverse order)

-- the node that stands right after n
abbrev pub next_in : List ℕ → ℕ → Option ℕ
next_in [] n = None
next_in (x ∷ xs) n = if x == n then first_of xs else next_in xs n

abbrev pub neighbours_in : List ℕ → ℕ → Neighbours
neighbours_in order n = record { previous = next_in (reverse order) n; next = next_in order n }

abbrev pub without : List ℕ → ℕ → List ℕ
without order n = filter (λ x. not (x == n)) order

abbrev pub put_after : ℕ → ℕ → List ℕ → List ℕ
put_after p n [] = []
put_after p n (x ∷ xs) = if x == p then x ∷ n ∷ xs else x ∷ put_after p n xs

-- the order with n right after the node p, or first where there is none
abbrev pub with_node : Option ℕ → ℕ → List ℕ → List ℕ
with_node None n order = n ∷ order
with_node (Some p) n order = put_after p n order

-- the order can be cut so that the one part ends and the other begins with these neighbours
pub record StandSideBySide (order : List ℕ) (k : Neighbours) : Type 0 where
  pub front : List ℕ
  pub back : List ℕ
  pub cut : order ≡ front ++ back
  pub previous : last_of front ≡ k.previous
  pub next : first_of back ≡ k.next

-- ---- nodes

abbrev pub IsLinked : {T : Type 0} → ChainState T → ℕ → Type 0
IsLinked s n = Contains s.order n

-- what a node keeps: its neighbours, where it is unlinked
abbrev pub kept_by : {T : Type 0} → ChainState T → ℕ → Option Neighbours
kept_by s n = slice_index_or s.kept n None

-- those that an unlinked node keeps, and those beside a linked one
abbrev pub neighbours_of : {T : Type 0} → ChainState T → ℕ → Neighbours
neighbours_of s n = unwrap_or (kept_by s n) (neighbours_in s.order n)

-- the items of the linked nodes, in order
abbrev pub linked_items : {T : Type 0} → ChainState T → List T
linked_items s = filter_map (slice_get s.items) s.order

-- no node is linked twice, the nodes that are linked are there, and exactly the others keep neighbours
pub record IsChain {T : Type 0} (s : ChainState T) : Type 0 where
  pub distinct : IsDistinct nat_eq s.order
  pub there : All (λ n. n < length s.items) s.order
  pub sizes : length s.kept ≡ length s.items
  pub linked : (n : ℕ) → n < length s.items → Contains s.order n ↔ (kept_by s n ≡ None)

-- ---- what calls do

abbrev pub empty_chain : {T : Type 0} → ChainState T
empty_chain = record { order = []; items = []; kept = [] }

-- a new node, with the next number, stands last
abbrev pub pushed : {T : Type 0} → ChainState T → T → ChainState T
pushed s item = record {
  order = s.order ++ length s.items ∷ [];
  items = s.items ++ item ∷ [];
  kept = s.kept ++ None ∷ [];
}

-- the node is taken out and keeps its neighbours; all other nodes keep what they kept
abbrev pub unlinked : {T : Type 0} → ChainState T → ℕ → ChainState T
unlinked s n = record {
  order = without s.order n;
  items = s.items;
  kept = slice_set s.kept n (Some (neighbours_in s.order n));
}

-- the node stands right after the previous one that it kept; all other nodes keep what they kept
abbrev pub relinked : {T : Type 0} → ChainState T → ℕ → ChainState T
relinked s n = record {
  order = with_node (neighbours_of s n).previous n s.order;
  items = s.items;
  kept = slice_set s.kept n None;
}

-- the node holds another item
abbrev pub with_item : {T : Type 0} → ChainState T → ℕ → T → ChainState T
with_item s n item = record { order = s.order; items = slice_set s.items n item; kept = s.kept }

-- ---- what calls ask

-- the node is unlinked, and its neighbours stand side by side, or are the end that they were
pub record CanRelink {T : Type 0} (s : ChainState T) (n : ℕ) : Type 0 where
  pub keeps : kept_by s n ≡ Some (neighbours_of s n)
  pub beside : StandSideBySide s.order (neighbours_of s n)

-- the newest node stands last
abbrev pub EndsWithNewest : {T : Type 0} → ChainState T → Type 0
EndsWithNewest s = last_of s.order ≡ Some (length s.items - 1)

-- ---- node after node

abbrev pub all_unlinked : {T : Type 0} → ChainState T → List ℕ → ChainState T
all_unlinked s nodes = fold unlinked s nodes

abbrev pub all_relinked : {T : Type 0} → ChainState T → List ℕ → ChainState T
all_relinked s nodes = fold relinked s nodes

-- each node is linked when its turn comes
abbrev pub CanUnlinkAll : {T : Type 0} → ChainState T → List ℕ → Type 0
CanUnlinkAll s [] = Unit {0}
CanUnlinkAll s (n ∷ ns) = IsLinked s n × CanUnlinkAll (unlinked s n) ns

-- each node can be relinked when its turn comes
abbrev pub CanRelinkAll : {T : Type 0} → ChainState T → List ℕ → Type 0
CanRelinkAll s [] = Unit {0}
CanRelinkAll s (n ∷ ns) = CanRelink s n × CanRelinkAll (relinked s n) ns
