-- The steps of packing: a conflict more is taken, or none is found.
use Rattle.std.proofs.Common.{◌≡◌, ℕ, ◌+◌, ◌-◌, ◌≤◌, true, false, List, [], ◌∷◌, ◌++◌, length, length-append, sym, ap, subst, ◌∙◌, arith}
use Rattle.std.specs.Prelude.{nat_lt}
use Rattle.ror_ranks.specs.declared.extreme.Conflict.{Conflict}
use Rattle.ror_ranks.specs.Trees.{share, members_at, is_apart}
use Rattle.ror_ranks_find.specs.declared.found.Found.{Found}
use Rattle.ror_ranks_find.specs.declared.packing.Packing.{Packing}
use Rattle.ror_ranks_find.specs.declared.sought.Sought.{Sought}
use Rattle.ror_ranks_find.specs.Search.{HasMore, IsOneWithin, IsPacking, IsPacked, IsTaken, IsTakenConflict}
use Rattle.ror_ranks_find.proofs.SmallLemmas.{share_fewer, new_apart}
use Rattle.ror_ranks_find.proofs.PackingLemmas.{packing_more, packing_later, packed_enough, packed_as_found, not_wanting}

-- the small conflict stands behind those that were there, apart from what is met
pub small_apart : (s : Sought) (conflict less old now : List Conflict) (met : List ℕ) → IsOneWithin s conflict less → now ≡ old ++ less → share (members_at conflict 0) met ≡ false → is_apart now met (length old) ≡ true
small_apart s conflict less old now met one is none = new_apart old now less met is one.one (share_fewer (members_at conflict 0) (members_at less 0) met one.within none)

module _ (before found : Found) (set : List ℕ) (goal : ℕ) (old now : Packing) (has : HasMore before found) (packing : IsPacking before.conflicts.items set goal old) where
  pub packing_taken : nat_lt (length old.places.items) (goal - old.size) ≡ true → IsTakenConflict found old now → IsPacking found.conflicts.items set goal now
  packing_taken short taken = packing_more found.conflicts.items set goal taken.0 old now (packing_later before found set goal old has packing) short taken.1 taken.2 taken.3 taken.4

  pub packed_without : IsTaken found old now false → IsPacked found set goal now
  packed_without none = subst (λ (x : Packing). IsPacked found set goal x) (sym none.0) (packed_as_found found set goal old (packing_later before found set goal old has packing) none.1)

pub many_taken : (n : ℕ) (found : Found) (old now : Packing) → n ≤ length old.places.items → IsTakenConflict found old now → n + 1 ≤ length now.places.items
many_taken n found old now many taken =
    let long = ap length taken.2 ∙ length-append old.places.items (taken.0 ∷ []) in
    omega (arith, many, long)

pub packed_whole : (found : Found) (set : List ℕ) (goal : ℕ) (x : Packing) → IsPacking found.conflicts.items set goal x → nat_lt (length x.places.items) (goal - x.size) ≡ false → IsPacked found set goal x
packed_whole found set goal x packing short = packed_enough found set goal x packing (not_wanting goal x short)

pub packed_at_end : (found : Found) (set : List ℕ) (goal : ℕ) (x : Packing) → IsPacking found.conflicts.items set goal x → goal ≤ length x.places.items → IsPacked found set goal x
packed_at_end found set goal x packing many = packed_enough found set goal x packing (omega (arith, many))
