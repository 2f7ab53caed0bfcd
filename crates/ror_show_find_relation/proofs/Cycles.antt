-- Where an alternative has no level, a path of the strict part comes back to where it began.
use Rattle.std.proofs.Common.{◌≡◌, ℕ, zero, suc, ◌+◌, ◌-◌, ◌<◌, Bool, true, false, ◌||◌, List, length, map, get_or, Option, None, refl, sym, arith, subst, eqb}
use Rattle.std.specs.List.{range_with_len, list_any, IsDistinct}
use Rattle.std.proofs.lemmas.Bool.{eqb-true, false_from_ne_true}
use Rattle.std.proofs.lemmas.List.FromFn.{length-map-range_with_len, get_or-map-range_with_len}
use Rattle.std.proofs.lemmas.Map.Keys.{IsDistinct-from_apart}
use Rattle.std.proofs.lemmas.Map.Steps.{length-le_from_distinct_below}
use Rattle.ror_show_find_relation.specs.Relations.{Square, IsAbove, PathOf, IsAcyclic}
use Rattle.ror_show_find_relation.specs.Levels.{level_at, AreLevels}
use Rattle.ror_show_find_relation.proofs.Parts.{above-there}

-- an alternative without a level
record Open (r : Square) (xs : List (Option ℕ)) : Type 0 where
  at : ℕ
  within : at < length r
  none : level_at xs at ≡ None

upward : (r : Square) (xs : List (Option ℕ)) → AreLevels r xs → Open r xs → Open r xs
upward r xs p o = let h = p.none o.at o.within o.none in record { at = h.upper; within = (above-there r h.upper o.at h.above).0; none = h.at }

-- the one so many steps above
walk : (r : Square) (xs : List (Option ℕ)) → AreLevels r xs → Open r xs → ℕ → Open r xs
walk r xs p o zero = o
walk r xs p o (suc n) = upward r xs p (walk r xs p o n)

place : (r : Square) (xs : List (Option ℕ)) → AreLevels r xs → Open r xs → ℕ → ℕ
place r xs p o n = (walk r xs p o n).at

step : (r : Square) (xs : List (Option ℕ)) (p : AreLevels r xs) (o : Open r xs) (n : ℕ) → IsAbove r (place r xs p o (suc n)) (place r xs p o n)
unfolding walk place upward
step r xs p o n = let w = walk r xs p o n in (p.none w.at w.within w.none).above

-- from the later to the earlier
back : (r : Square) (xs : List (Option ℕ)) (p : AreLevels r xs) (o : Open r xs) (n i j : ℕ) → suc (i + n) ≡ j → PathOf (IsAbove r) n (place r xs p o j) (place r xs p o i)
back r xs p o n i zero is = absurd (omega arith)
back r xs p o zero i (suc j) is = let same : j ≡ i = omega arith in subst (λ (x : ℕ). IsAbove r (place r xs p o (suc j)) (place r xs p o x)) same (step r xs p o j)
back r xs p o (suc n) i (suc j) is = (place r xs p o j, step r xs p o j, back r xs p o n i j (omega arith))

members-below : (f : ℕ → ℕ) (n first m q : ℕ) → ((i : ℕ) → f i < n) → list_any (eqb q) (map f (range_with_len first m)) ≡ true → q < n
members-below f n first zero q low there = absurd cc
members-below f n first (suc m) q low there = by (eqb q (f first)) refl there (members-below f n (first + 1) m q low)
  where
    by : (t : Bool) → eqb q (f first) ≡ t → (t || list_any (eqb q) (map f (range_with_len (first + 1) m))) ≡ true → (list_any (eqb q) (map f (range_with_len (first + 1) m)) ≡ true → q < n) → q < n
    by true is there rest = let same = eqb-true q (f first) is in let less = low first in omega arith
    by false is there rest = rest there

-- numbers below n can't all differ at more than n places
repeats : (f : ℕ → ℕ) (n : ℕ) → ((i : ℕ) → f i < n) → ((i j : ℕ) → i < j → f i ≡ f j → ⊥) → ⊥
repeats f n low apart =
    let xs : List ℕ = map f (range_with_len 0 (suc n)) in
    let long : length (map f (range_with_len 0 (suc n))) ≡ suc n = length-map-range_with_len f 0 (suc n) in
    let distinct : IsDistinct eqb (map f (range_with_len 0 (suc n))) = IsDistinct-from_apart eqb (map f (range_with_len 0 (suc n)))
    (λ i j d less within. differ i j d less (omega arith)) in
    let few = length-le_from_distinct_below (map f (range_with_len 0 (suc n))) n distinct (λ q. members-below f n 0 (suc n) q low) in
    omega arith
  where
    differ : (i j d : ℕ) → i < j → j < suc n → eqb (get_or (map f (range_with_len 0 (suc n))) i d) (get_or (map f (range_with_len 0 (suc n))) j d) ≡ false
    differ i j d less within =
        let at_i : get_or (map f (range_with_len 0 (suc n))) i d ≡ f i = get_or-map-range_with_len f 0 (suc n) i i d (omega arith) (omega arith) in
        let at_j : get_or (map f (range_with_len 0 (suc n))) j d ≡ f j = get_or-map-range_with_len f 0 (suc n) j j d within (omega arith) in
        rw (at_i, at_j) (false_from_ne_true (eqb (f i) (f j)) (λ t. apart i j less (eqb-true (f i) (f j) t)))

low : (r : Square) (xs : List (Option ℕ)) (p : AreLevels r xs) (o : Open r xs) (i : ℕ) → place r xs p o i < length r
unfolding place
low r xs p o i = (walk r xs p o i).within

apart : (r : Square) (xs : List (Option ℕ)) → IsAcyclic r → (p : AreLevels r xs) (o : Open r xs) (i j : ℕ) → i < j → place r xs p o i ≡ place r xs p o j → ⊥
apart r xs acyclic p o i j less same =
    acyclic (place r xs p o i) (j - suc i, subst (λ (x : ℕ). PathOf (IsAbove r) (j - suc i) x (place r xs p o i)) (sym same) (back r xs p o (j - suc i) i j (omega arith)))

pub acyclic-levelled : (r : Square) (xs : List (Option ℕ)) → IsAcyclic r → AreLevels r xs → (a : ℕ) → a < length r → level_at xs a ≡ None → ⊥
acyclic-levelled r xs acyclic p a within none =
    let o : Open r xs = record { at = a; within = within; none = none } in
    repeats (place r xs p o) (length r) (low r xs p o) (apart r xs acyclic p o)
