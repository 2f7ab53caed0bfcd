-- Packings: one conflict more, conflicts that come behind, and the node that a packing gives.
use Rattle.std.proofs.Common.{◌≡◌, ◌≢◌, ◌⊎◌, inl, inr, ℕ, ◌+◌, ◌-◌, ◌<◌, ◌≤◌, Bool, true, false, List, [], ◌∷◌, ◌++◌, length, map, append-nil, append_assoc, length-append, refl, sym, ap, ap₂, subst, ◌∙◌, arith}
use Rattle.std.specs.Global.{Vec}
use Rattle.std.specs.Prelude.{nat_lt, ◌==◌}
use Rattle.std.specs.List.{AllByRecursion, flat_map}
use Rattle.std.proofs.lemmas.Bool.{and_parts, and_from, ltb-true, ltb-false, eq-eqb}
use Rattle.ror_ranks.specs.declared.extreme.Conflict.{Conflict}
use Rattle.ror_ranks.specs.declared.extreme.Node.TheVariants.{Leaf, Branch}
use Rattle.ror_ranks_find.specs.declared.found.Found.{Found}
use Rattle.ror_ranks_find.specs.declared.packing.Packing.{Packing}
use Rattle.ror_ranks_find.specs.declared.growing.Tree.{Tree}
use Rattle.ror_ranks.specs.Trees.{members_at, is_apart, are_apart}
use Rattle.ror_ranks_find.specs.Search.{HasMore, IsPacking, IsPacked, IsPut, IsPutNode, IsPutBranch, IsPutBy, IsStopped}
use Rattle.ror_ranks_find.proofs.GrowLemmas.{members_stay, apart_within, places_stay}

-- ---- one conflict more

apart_push : (conflicts : List Conflict) (set : List ℕ) (places : List ℕ) (place : ℕ) → are_apart conflicts set places ≡ true
    → is_apart conflicts (set ++ flat_map (members_at conflicts) places) place ≡ true → are_apart conflicts set (places ++ place ∷ []) ≡ true
apart_push conflicts set [] place apart next = and_from (is_apart conflicts set place) true (ap (λ (s : List ℕ). is_apart conflicts s place) (sym (append-nil set)) ∙ next) refl
apart_push conflicts set (p ∷ ps) place apart next =
    let members = members_at conflicts p in
    let parts = and_parts (is_apart conflicts set p) (are_apart conflicts (set ++ members) ps) apart in
    let grouped : (set ++ members) ++ flat_map (members_at conflicts) ps ≡ set ++ (members ++ flat_map (members_at conflicts) ps) = append_assoc set members (flat_map (members_at conflicts) ps) in
    and_from (is_apart conflicts set p) (are_apart conflicts (set ++ members) (ps ++ place ∷ [])) parts.0
    (apart_push conflicts (set ++ members) ps place parts.1 (ap (λ (s : List ℕ). is_apart conflicts s place) grouped ∙ next))

pieces_push : (conflicts : List Conflict) (places : List ℕ) (place : ℕ) → flat_map (members_at conflicts) (places ++ place ∷ []) ≡ flat_map (members_at conflicts) places ++ members_at conflicts place
pieces_push conflicts [] place = append-nil (members_at conflicts place)
pieces_push conflicts (p ∷ ps) place =
    ap (λ (rest : List ℕ). members_at conflicts p ++ rest) (pieces_push conflicts ps place)
    ∙ sym (append_assoc (members_at conflicts p) (flat_map (members_at conflicts) ps) (members_at conflicts place))

-- more alternatives are to be shown
pub is_wanting : (goal : ℕ) (x : Packing) → nat_lt (length x.places.items) (goal - x.size) ≡ true → x.size + length x.places.items < goal
is_wanting goal x short = let less = ltb-true (length x.places.items) (goal - x.size) short in omega (arith, less)

pub packing_more : (conflicts : List Conflict) (set : List ℕ) (goal place : ℕ) (before now : Packing) → IsPacking conflicts set goal before → nat_lt (length before.places.items) (goal - before.size) ≡ true
    → is_apart conflicts before.met.items place ≡ true → now.places.items ≡ before.places.items ++ place ∷ [] → now.met.items ≡ before.met.items ++ members_at conflicts place → now.size ≡ before.size
    → IsPacking conflicts set goal now
packing_more conflicts set goal place before now packing short next places met size =
    let less = is_wanting goal before short in
    let long : length now.places.items ≡ length before.places.items + 1 = ap length places ∙ length-append before.places.items (place ∷ []) in record {
      apart = ap (are_apart conflicts set) places ∙ apart_push conflicts set before.places.items place packing.apart (ap (λ (s : List ℕ). is_apart conflicts s place) (sym packing.met) ∙ next);
      met = met
          ∙ ap (λ (s : List ℕ). s ++ members_at conflicts place) packing.met
          ∙ append_assoc set (flat_map (members_at conflicts) before.places.items) (members_at conflicts place)
          ∙ ap (λ (s : List ℕ). set ++ s) (sym (ap (flat_map (members_at conflicts)) places ∙ pieces_push conflicts before.places.items place));
      size = size ∙ packing.size;
      within = omega (arith, less, long, size);
    }

-- ---- conflicts that come behind others

pieces_stay : (conflicts more : List Conflict) (set : List ℕ) (places : List ℕ) → are_apart conflicts set places ≡ true → flat_map (members_at (conflicts ++ more)) places ≡ flat_map (members_at conflicts) places
pieces_stay conflicts more set [] apart = refl
pieces_stay conflicts more set (p ∷ ps) apart =
    let parts = and_parts (is_apart conflicts set p) (are_apart conflicts (set ++ members_at conflicts p) ps) apart in
    ap₂ (λ (front rest : List ℕ). front ++ rest) (members_stay conflicts more p (apart_within conflicts set p parts.0)) (pieces_stay conflicts more (set ++ members_at conflicts p) ps parts.1)

pub packing_later : (before now : Found) (set : List ℕ) (goal : ℕ) (x : Packing) → HasMore before now → IsPacking before.conflicts.items set goal x → IsPacking now.conflicts.items set goal x
packing_later before now set goal x has packing = subst (λ (cs : List Conflict). IsPacking cs set goal x) (sym has.conflicts) (record {
  apart = places_stay before.conflicts.items has.added set x.places.items packing.apart;
  met = packing.met ∙ ap (λ (s : List ℕ). set ++ s) (sym (pieces_stay before.conflicts.items has.added set x.places.items packing.apart));
  size = packing.size;
  within = packing.within;
})

-- ---- what is packed

-- as many as are to be shown
pub packed_enough : (found : Found) (set : List ℕ) (goal : ℕ) (x : Packing) → IsPacking found.conflicts.items set goal x → goal ≤ x.size + length x.places.items → IsPacked found set goal x
packed_enough found set goal x packing enough = record { packing = packing; short = λ less. absurd (omega (arith, less, enough)) }

pub not_wanting : (goal : ℕ) (x : Packing) → nat_lt (length x.places.items) (goal - x.size) ≡ false → goal ≤ x.size + length x.places.items
not_wanting goal x short = let le = ltb-false (length x.places.items) (goal - x.size) short in omega (arith, le)

pub packed_as_found : (found : Found) (set : List ℕ) (goal : ℕ) (x : Packing) → IsPacking found.conflicts.items set goal x → (length found.except ≤ length x.met.items) ⊎ (found.wide.items ≢ []) → IsPacked found set goal x
packed_as_found found set goal x packing why = record { packing = packing; short = λ less. why }

-- ---- the node

-- a leaf of as many conflicts as are wanting
leaf_put : (found : Found) (set : List ℕ) (places : List ℕ) (before now : Tree) → are_apart found.conflicts.items set places ≡ true → length set + length places ≡ before.goal → before.goal ≤ length found.except
    → IsPutBy found set places false before now → IsPutNode found set before now
leaf_put found set places before now apart number low put = record {
  node = Leaf places;
  stands = and_from (are_apart found.conflicts.items set places) (length set + length places == before.goal) apart (eq-eqb (length set + length places) before.goal number);
  nodes = put.0;
  sets = ap (λ (v : Vec (List ℕ)). v.items) put.1 ∙ sym (append-nil before.sets.items);
  state = put.3;
  goal = low;
  room = tt;
}

-- with each member the set is one larger
below_room : (set : List ℕ) (members : List ℕ) (goal : ℕ) → length set < goal → AllByRecursion (λ (below : List ℕ). length below ≤ goal) (map (λ b. set ++ b ∷ []) members)
below_room set [] goal less = tt
below_room set (b ∷ bs) goal less = let long = length-append set (b ∷ []) in (omega (arith, less, long), below_room set bs goal less)

branch_put : (found : Found) (set : List ℕ) (place : ℕ) (before now : Tree) → is_apart found.conflicts.items set place ≡ true → length set < before.goal → before.goal ≤ length found.except
    → IsPutBranch found set place before now → IsPutNode found set before now
branch_put found set place before now apart less low put = record {
  node = Branch place;
  stands = apart;
  nodes = put.nodes;
  sets = put.sets;
  state = put.state;
  goal = low;
  room = below_room set (members_at found.conflicts.items place) before.goal less;
}

-- whichever of the three it is
pub put_by : (found : Found) (set : List ℕ) (x : Packing) (before now : Tree) (places : List ℕ) (wanting : Bool) → IsPacked found set before.goal x → before.goal ≤ length found.except
    → places ≡ x.places.items → nat_lt (length x.places.items) (before.goal - x.size) ≡ wanting → IsPutBy found set places wanting before now → IsPut found set before now
put_by found set x before now places false packed low same short put =
    let enough = not_wanting before.goal x short in
    let within = packed.packing.within in
    let size = packed.packing.size in
    let long = ap length same in
    let apart = ap (are_apart found.conflicts.items set) same ∙ packed.packing.apart in
    (put.2, inl (leaf_put found set places before now apart (omega (arith, enough, within, size, long)) low put))
put_by found set x before now [] true packed low same short put = (put.1, inr (subst (IsStopped found now) (sym put.2) (too_wide (packed.short less))))
  where
    less : x.size + length x.places.items < before.goal
    less = is_wanting before.goal x short

    -- what is met is the set alone, which is too small for all that may count
    alone : length x.met.items ≡ length set
    alone = ap length (packed.packing.met ∙ ap (λ (ps : List ℕ). set ++ flat_map (members_at found.conflicts.items) ps) (sym same) ∙ append-nil set)

    too_wide : (length found.except ≤ length x.met.items) ⊎ (found.wide.items ≢ []) → found.wide.items ≢ []
    too_wide (inl few) =
        let size = packed.packing.size in
        let met = alone in
        let more = less in
        absurd (omega (arith, few, size, met, more, low))
    too_wide (inr wide) = wide
put_by found set x before now (place ∷ places) true packed low same short put =
    let less = is_wanting before.goal x short in
    let size = packed.packing.size in
    let apart : are_apart found.conflicts.items set (place ∷ places) ≡ true = ap (are_apart found.conflicts.items set) same ∙ packed.packing.apart in
    let first = (and_parts (is_apart found.conflicts.items set place) (are_apart found.conflicts.items (set ++ members_at found.conflicts.items place) places) apart).0 in
    (put.goal, inl (branch_put found set place before now first (omega (arith, less, size)) low put))
