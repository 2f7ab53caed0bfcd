-- The strict and the symmetric part of a relation.
use Rattle.std.proofs.Common.{◌≡◌, ℕ, ◌<◌, ◌≤◌, Bool, true, false, not, List, [], length, get_or, refl, ap, inl, inr}
use Rattle.std.specs.Prelude.{◌⊎◌, nat_lt}
use Rattle.std.proofs.lemmas.Bool.{ltb-true}
use Rattle.std.proofs.lemmas.List.{get_or_past}
use Rattle.ror_show_find_relation.specs.Relations.{Square, holds, equals, IsAbove, IsTransitive}
use Rattle.ror_show_ground.proofs.Tests.{less_or, both-true, not-true, true-or-false}

pub of-above : (r : Square) (a b : ℕ) → IsAbove r a b → (holds r a b ≡ true) × (holds r b a ≡ false)
of-above r a b over = let parts = both-true (holds r a b) (not (holds r b a)) over in (parts.0, not-true (holds r b a) parts.1)

pub to-above : (r : Square) (a b : ℕ) → holds r a b ≡ true → holds r b a ≡ false → IsAbove r a b
to-above r a b over under = rw (over, under)

pub of-equals : (r : Square) (a b : ℕ) → equals r a b ≡ true → (holds r a b ≡ true) × (holds r b a ≡ true)
of-equals r a b same = both-true (holds r a b) (holds r b a) same

-- what holds is of alternatives that are there
pub second-there : (r : Square) (a b : ℕ) → holds r a b ≡ true → b < length r
second-there r a b over = ltb-true b (length r) (both-true (nat_lt b (length r)) (get_or (get_or r a []) b false) over).0

pub first-there : (r : Square) (a b : ℕ) → holds r a b ≡ true → a < length r
first-there r a b over = by (less_or a (length r))
  where
    by : (a < length r) ⊎ (length r ≤ a) → a < length r
    by (inl within) = within
    by (inr past) =
        let no_row : get_or r a [] ≡ [] = get_or_past r a [] past in
        let entry : get_or (get_or r a []) b false ≡ true = (both-true (nat_lt b (length r)) (get_or (get_or r a []) b false) over).1 in
        let nothing : get_or (get_or r a []) b false ≡ false = ap (λ (row : List Bool). get_or row b false) no_row in
        absurd cc

pub above-there : (r : Square) (a b : ℕ) → IsAbove r a b → (a < length r) × (b < length r)
above-there r a b over = let parts = of-above r a b over in (first-there r a b parts.0, second-there r a b parts.0)

pub above-irreflexive : (r : Square) (a : ℕ) → IsAbove r a a → ⊥
above-irreflexive r a over = let parts = of-above r a a over in cc

pub above-transitive : (r : Square) → IsTransitive r → (a b c : ℕ) → IsAbove r a b → IsAbove r b c → IsAbove r a c
above-transitive r transitive a b c p q =
    let ab = of-above r a b p in
    let bc = of-above r b c q in
    to-above r a c (transitive a b c ab.0 bc.0) (by ab bc (holds r c a) refl)
  where
    by : (holds r a b ≡ true) × (holds r b a ≡ false) → (holds r b c ≡ true) × (holds r c b ≡ false) → (t : Bool) → holds r c a ≡ t → holds r c a ≡ false
    by ab bc true is = let back : holds r c b ≡ true = transitive c a b is ab.0 in absurd cc
    by ab bc false is = is

-- what holds is strict or symmetric
pub split : (r : Square) (a b : ℕ) → holds r a b ≡ true → IsAbove r a b ⊎ (equals r a b ≡ true)
split r a b over = by (true-or-false (holds r b a))
  where
    by : (holds r b a ≡ true) ⊎ (holds r b a ≡ false) → IsAbove r a b ⊎ (equals r a b ≡ true)
    by (inl back) = inr (rw (over, back))
    by (inr none) = inl (to-above r a b over none)

pub joined : (r : Square) (a b : ℕ) → IsAbove r a b ⊎ (equals r a b ≡ true) → holds r a b ≡ true
joined r a b (inl over) = (of-above r a b over).0
joined r a b (inr same) = (of-equals r a b same).0

pub parts-apart : (r : Square) (a b : ℕ) → IsAbove r a b → equals r a b ≡ true → ⊥
parts-apart r a b over same = let p = of-above r a b over in let q = of-equals r a b same in cc
