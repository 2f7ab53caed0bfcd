-- Laws of chains: what stands beside a node, and that relinking gives back what unlinking took.
use Rattle.std.specs.Prelude.{◌≡◌, ℕ, List, ◌∷◌, ◌++◌, nat_eq, reverse}
use Rattle.std.specs.List.{IsDistinct}
use Rattle.ror_chain.specs.Chain.{ChainState, first_of, last_of, neighbours_in, kept_by, IsLinked, IsChain, unlinked, relinked, CanRelink, all_unlinked, all_relinked, CanUnlinkAll, CanRelinkAll}

-- a node of an order stands between the last of those before it and the first of those after it
abbrev pub NeighboursStandBeside : Type 0
NeighboursStandBeside = (front : List ℕ) (n : ℕ) (back : List ℕ) → IsDistinct nat_eq (front ++ n ∷ back)
    → neighbours_in (front ++ n ∷ back) n ≡ record { previous = last_of front; next = first_of back }

pub record RelinkRestores (T : Type 0) : Type 0 where
  -- where the order is the one that unlinking a node left, and the node keeps the same, relinking it gives the order before
  pub order : (s t : ChainState T) (n : ℕ) → IsChain s → IsLinked s n
      → t.order ≡ (unlinked s n).order → kept_by t n ≡ kept_by (unlinked s n) n
      → CanRelink t n × ((relinked t n).order ≡ s.order)
  -- a node that is unlinked can be relinked, which gives back the whole chain
  pub one : (s : ChainState T) (n : ℕ) → IsChain s → IsLinked s n
      → CanRelink (unlinked s n) n × (relinked (unlinked s n) n ≡ s)
  -- so do nodes that are unlinked one after another and relinked in the reverse order
  pub all : (s : ChainState T) (nodes : List ℕ) → IsChain s → CanUnlinkAll s nodes
      → CanRelinkAll (all_unlinked s nodes) (reverse nodes) × (all_relinked (all_unlinked s nodes) (reverse nodes) ≡ s)
