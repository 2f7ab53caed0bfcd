-- Multiples of amounts over a common denominator, the distances between levels, and their weights.
use Rattle.std.proofs.Common.{◌≡◌, ◌≢◌, ◌⊎◌, Option, Some, None, Result, Ok, Err, IfSome, IsErrAnd, rules, min, ◌&&◌, ◌||◌, nat_lt, nat_le, ℕ, zero, suc, ◌+◌, ◌-◌, ◌*◌, ◌/◌, ◌<◌, ◌≤◌, ◌^◌, Bool, true, false, inl, inr, List, [], ◌∷◌, ◌++◌, map, length, get_or, drop, fold, All, Contains, ℤ, pos, ◌-ℤ◌, ◌*ℤ◌, ◌<ℤ◌, ◌≤ℤ◌, unsigned_abs, refl, sym, ap, ap₂, subst, ◌∙◌, arith, add-one, drop-cons}
use Prim.Native.Nat.{◌∣◌}
use Rattle.std.specs.List.{range_with_len, list_any}
use Rattle.std.proofs.Math.Nat.{dvd_trans, div-zero, zero-div, div-mul_cancel, div-le_self, div-mul-le_self, mul-le-mul, lt_of_mul-lt-mul_right}
use Rattle.std.proofs.lemmas.Nat.{le-div}
use Rattle.std.proofs.lemmas.Nat.Gcd.{dvd_refl, le_of_dvd}
use Rattle.std.proofs.lemmas.Int.{ints, unsigned_abs-mul, to_z-of_z}
use Rattle.std.specs.Int.{w64, w128}
use mir.Val.{SFits, to_z, of_z}
use Rattle.std.proofs.lemmas.Bool.{cases_lt, and_parts, ltb-true, lt-ltb, le-ltb, le-leb, lt-leb, leb-false}
use Rattle.std.proofs.lemmas.List.{ext_get_or, get_or-map, get_or_default, get_or_read, length-map, length_push, get_or_push, get_or_append_left}
use Rattle.std.proofs.lemmas.List.FromFn.{length-map-range_with_len, get_or-map-range_with_len, length-range_with_len, get_or-range_with_len}
use Rattle.std.proofs.lemmas.List.Folds.{list_any-append, list_any-from_Any}
use Rattle.std.specs.Global.{Vec}
use Rattle.ror_text.proofs.ListLemmas.{range_more}
use Rattle.std.proofs.lemmas.List.Elements.{Contains-get_or, All-drop}
use Rattle.std.proofs.lemmas.Map.Made.{is_member-Decides}
use Rattle.ror_integers.specs.Gcd.{gcd, gcd_of, least_common_multiple, exact_quotient}
use Rattle.ror_integers.proofs.Gcd.{gcd-dvd_right, gcd-zero_right, gcd_of-entry, gcd_of_positive, length-divided, entry-divided, divided_coprime, multiple_of_first, multiple_of_second, multiple_positive}
use Rattle.ror_integers.proofs.Order.{mul_lt, cancel, cancel_lt, product_positive, le_of_lt}
use Rattle.ror_integers.proofs.Ring.{sums}
use Rattle.ror_integers.proofs.Solver.{ring3, ring5, ring6, ◌⊗◌, ◌⊖◌}
use Rattle.ror_table.specs.declared.amount.Amount.{Amount}
use Rattle.ror_text.specs.Reading.{Gives, refuse}
use Rattle.ror_table.specs.declared.fault.DraftFault.{DraftFault}
use Rattle.ror_table.specs.declared.fault.DraftFault.TheVariants.{BadId, RepeatedId, TooMany, Empty, Memory, WideScale}
use Rattle.ror_table.specs.Draft.{draft_fault}
use Rattle.ror_table.specs.declared.direction.Direction.{Direction}
use Rattle.ror_table.specs.declared.direction.Direction.TheVariants.{Max, Min}
use Rattle.ror_table.specs.declared.limits.TheConstants.{AMOUNT_LIMIT}
use Rattle.ror_table.specs.Amounts.{IsAmount, whole, is_smaller, is_worse}
use Rattle.ror_table.specs.Table.{DecisionTable, IsTable, common_denominator, multiple, direction_at, is_linear, performances_on, steps, level, distance, weights, weight, has_weights, has_wide_weights}
use Rattle.ror_table.specs.Index.{distances_of, AreWeightsOfEach, IsWideSomewhere}
use Rattle.ror_table.proofs.LevelLemmas.{levels_exist}
use Rattle.ror_table.proofs.RankLemmas.{level_at-IsLevels, steps-levels, performances_amounts}
use Rattle.ror_integers.specs.Vectors.{entry}
use Rattle.ror_table.specs.Levels.{Rises, IsLevels}
use Rattle.ror_table.specs.Laws.{apart, AreRatios}
use Rattle.ror_table.proofs.AmountLemmas.{lt_of_test, is_same-Decides}

-- ---- common denominators
abbrev pub with_denominator : ℕ → Amount → ℕ
with_denominator d p = least_common_multiple d (unsigned_abs p.den)

pub denominator_positive : (p : Amount) → IsAmount p → 0 < unsigned_abs p.den
denominator_positive p h = let l = h.positive in omega (arith, ints)

pub start-dvd-fold : (d : ℕ) (ps : List Amount) → d ∣ fold with_denominator d ps
start-dvd-fold d [] = dvd_refl d
start-dvd-fold d (p ∷ ps) = dvd_trans d (multiple_of_first d (unsigned_abs p.den)) (start-dvd-fold (with_denominator d p) ps)

pub denominator-dvd-fold : (d : ℕ) (ps : List Amount) (k : ℕ) (e : Amount) → k < length ps → unsigned_abs (get_or ps k e).den ∣ fold with_denominator d ps
denominator-dvd-fold d [] k e h = absurd (omega arith)
denominator-dvd-fold d (p ∷ ps) zero e h = dvd_trans (unsigned_abs p.den) (multiple_of_second d (unsigned_abs p.den)) (start-dvd-fold (with_denominator d p) ps)
denominator-dvd-fold d (p ∷ ps) (suc k) e h = denominator-dvd-fold (with_denominator d p) ps k e (omega arith)

pub fold_positive : (d : ℕ) (ps : List Amount) → 0 < d → All IsAmount ps → 0 < fold with_denominator d ps
fold_positive d [] h all = h
fold_positive d (p ∷ ps) h all =
    fold_positive (with_denominator d p) ps (multiple_positive d (unsigned_abs p.den) h (denominator_positive p (all 0 p (omega arith)))) (λ k e l. all (suc k) e (omega arith))

pub common_positive : (ps : List Amount) → All IsAmount ps → 0 < common_denominator ps
common_positive ps all = fold_positive 1 ps (omega arith) all

-- ---- multiples
pub multiple_times : (n : ℕ) (p : Amount) → IsAmount p → unsigned_abs p.den ∣ n → multiple n p *ℤ p.den ≡ pos n *ℤ p.num
multiple_times n p h d =
    let l = h.positive in
    let e : n / unsigned_abs p.den * unsigned_abs p.den ≡ n = div-mul_cancel (unsigned_abs p.den) d in
    let f : p.den ≡ pos (unsigned_abs p.den) = omega (arith, ints) in
    ring3 (λ a b c. (a ⊗ b) ⊗ c) (λ a b c. (a ⊗ c) ⊗ b) refl (pos (n / unsigned_abs p.den)) p.num p.den
    ∙ ap (λ (x : ℤ). x *ℤ p.num) (ap (λ (x : ℤ). pos (n / unsigned_abs p.den) *ℤ x) f ∙ ap pos e)

-- both multiples, times both denominators
pub multiple_cross : (n : ℕ) (p q : Amount) → IsAmount p → unsigned_abs p.den ∣ n → (p.den *ℤ q.den) *ℤ multiple n p ≡ pos n *ℤ (p.num *ℤ q.den)
multiple_cross n p q h d =
    ring3 (λ a b c. (b ⊗ c) ⊗ a) (λ a b c. (a ⊗ b) ⊗ c) refl (multiple n p) p.den q.den
    ∙ ap (λ (x : ℤ). x *ℤ q.den) (multiple_times n p h d)
    ∙ ring3 (λ a b c. (a ⊗ b) ⊗ c) (λ a b c. a ⊗ (b ⊗ c)) refl (pos n) p.num q.den

pub multiple_cross_other : (n : ℕ) (p q : Amount) → IsAmount q → unsigned_abs q.den ∣ n → (p.den *ℤ q.den) *ℤ multiple n q ≡ pos n *ℤ (q.num *ℤ p.den)
multiple_cross_other n p q h d = ring3 (λ a b c. (a ⊗ b) ⊗ c) (λ a b c. (b ⊗ a) ⊗ c) refl p.den q.den (multiple n q) ∙ multiple_cross n q p h d

pub multiple_smaller : (n : ℕ) (p q : Amount) → 0 < n → IsAmount p → IsAmount q → unsigned_abs p.den ∣ n → unsigned_abs q.den ∣ n → is_smaller p q ≡ true → multiple n p <ℤ multiple n q
multiple_smaller n p q hn hp hq dp dq h =
    let k : pos 0 <ℤ pos n = omega (arith, ints) in
    let a = mul_lt (pos n) (p.num *ℤ q.den) (q.num *ℤ p.den) k (lt_of_test (p.num *ℤ q.den) (q.num *ℤ p.den) h) in
    let b = product_positive p.den q.den hp.positive hq.positive in
    cancel_lt (p.den *ℤ q.den) (multiple n p) (multiple n q) (le_of_lt (pos 0) (p.den *ℤ q.den) b)
    (omega (arith, sums, multiple_cross n p q hp dp, multiple_cross_other n p q hq dq))

-- how far two multiples lie apart
pub multiple_apart : (n : ℕ) (p q : Amount) → IsAmount p → IsAmount q → unsigned_abs p.den ∣ n → unsigned_abs q.den ∣ n → (p.den *ℤ q.den) *ℤ pos (unsigned_abs (multiple n p -ℤ multiple n q)) ≡ pos n *ℤ pos (apart p q)
multiple_apart n p q hp hq dp dq =
    let b = product_positive p.den q.den hp.positive hq.positive in
    let f : p.den *ℤ q.den ≡ pos (unsigned_abs (p.den *ℤ q.den)) = omega (arith, sums) in
    let e : (p.den *ℤ q.den) *ℤ (multiple n p -ℤ multiple n q) ≡ pos n *ℤ (p.num *ℤ q.den -ℤ q.num *ℤ p.den) =
    ring3 (λ a b c. a ⊗ (b ⊖ c)) (λ a b c. a ⊗ b ⊖ a ⊗ c) refl (p.den *ℤ q.den) (multiple n p) (multiple n q)
    ∙ ap₂ (λ (x y : ℤ). x -ℤ y) (multiple_cross n p q hp dp) (multiple_cross_other n p q hq dq)
    ∙ ring3 (λ a b c. a ⊗ b ⊖ a ⊗ c) (λ a b c. a ⊗ (b ⊖ c)) refl (pos n) (p.num *ℤ q.den) (q.num *ℤ p.den) in
    ap (λ (x : ℤ). x *ℤ pos (unsigned_abs (multiple n p -ℤ multiple n q))) f
    ∙ ap pos (sym (unsigned_abs-mul (p.den *ℤ q.den) (multiple n p -ℤ multiple n q)) ∙ ap unsigned_abs e ∙ unsigned_abs-mul (pos n) (p.num *ℤ q.den -ℤ q.num *ℤ p.den))

pub multiple_small : (n : ℕ) (p : Amount) → n < AMOUNT_LIMIT → IsAmount p → unsigned_abs (multiple n p) < 10 ^ 36
multiple_small n p h a =
    let e = unsigned_abs-mul (pos (n / unsigned_abs p.den)) p.num in
    subst (λ (x : ℕ). x < 10 ^ 36) (sym e) (small_product (n / unsigned_abs p.den) (unsigned_abs p.num) (omega (arith, div-le_self n (unsigned_abs p.den))) a.num_bounded)
  where
    small_product : (a b : ℕ) → a < AMOUNT_LIMIT → b < AMOUNT_LIMIT → a * b < 10 ^ 36
    small_product a b h k =
        let x : a ≤ 10 ^ 18 - 1 = omega arith in
        let y : b ≤ 10 ^ 18 - 1 = omega arith in
        omega (arith, mul-le-mul x y)

-- ---- levels over a common denominator
pub record AreOver (n : ℕ) (ls : List Amount) : Type 0 where
  pub positive : 0 < n
  pub amounts : All IsAmount ls
  pub divides : (k : ℕ) (e : Amount) → k < length ls → unsigned_abs (get_or ls k e).den ∣ n

pub AreOver-levels : (d : Direction) (ps ls : List Amount) → All IsAmount ps → IsLevels d ps ls → AreOver (common_denominator ps) ls
AreOver-levels d ps ls all up = record {
  positive = common_positive ps all;
  amounts = up.amounts;
  divides = λ k e l. among (get_or ls k e) (there k e l);
}
  where
    there : (k : ℕ) (e : Amount) → k < length ls → Contains ps (get_or ls k e)
    there k e l =
        let q = get_or ls k e in
        (is_member-Decides is_same-Decides ps q).0 (sym (up.members q) ∙ (is_member-Decides is_same-Decides ls q).1 (Contains-get_or ls k e l))

    among : (q : Amount) → Contains ps q → unsigned_abs q.den ∣ common_denominator ps
    among q at = subst (λ (x : Amount). unsigned_abs x.den ∣ common_denominator ps) at.2 (denominator-dvd-fold 1 ps at.0 q at.1)

-- how far level k lies from the first one
abbrev pub gap : ℕ → List Amount → ℕ → ℕ
gap n ls k = unsigned_abs (multiple n (get_or ls k (whole (pos 0))) -ℤ multiple n (get_or ls 0 (whole (pos 0))))

gap_above : (a b z : ℤ) → (z ≡ a) ⊎ (z <ℤ a) → a <ℤ b → unsigned_abs (a -ℤ z) < unsigned_abs (b -ℤ z)
gap_above a b z (inl e) l = omega (arith, ints)
gap_above a b z (inr k) l = omega (arith, ints)

gap_below : (a b z : ℤ) → (z ≡ a) ⊎ (a <ℤ z) → b <ℤ a → unsigned_abs (a -ℤ z) < unsigned_abs (b -ℤ z)
gap_below a b z (inl e) l = omega (arith, ints)
gap_below a b z (inr k) l = omega (arith, ints)

multiple_rises : (d : Direction) (n : ℕ) (ls : List Amount) (i j : ℕ) (e : Amount) → AreOver n ls → Rises d ls → i < j → j < length ls → (d ≡ Max → multiple n (get_or ls i e) <ℤ multiple n (get_or ls j e)) × (d ≡ Min → multiple n (get_or ls j e) <ℤ multiple n (get_or ls i e))
multiple_rises d n ls i j e over up l within =
    let p = get_or ls i e in
    let q = get_or ls j e in
    let hp : IsAmount p = over.amounts i e (omega arith) in
    let hq : IsAmount q = over.amounts j e within in
    let dp = over.divides i e (omega arith) in
    let dq = over.divides j e within in
    let w : is_worse d p q ≡ true = up i j e l within in (
      λ same. multiple_smaller n p q over.positive hp hq dp dq (subst (λ (x : Direction). is_worse x p q ≡ true) same w),
      λ same. multiple_smaller n q p over.positive hq hp dq dp (subst (λ (x : Direction). is_worse x p q ≡ true) same w),
    )

first_or_later : (P : ℕ → Type 0) (i : ℕ) → (0 < i → P i) → (0 ≡ i) ⊎ P i
first_or_later P zero f = inl refl
first_or_later P (suc i) f = inr (f (omega arith))

pub gap_rises : (d : Direction) (n : ℕ) (ls : List Amount) (i j : ℕ) → AreOver n ls → Rises d ls → i < j → j < length ls → gap n ls i < gap n ls j
gap_rises Max n ls i j over up l within =
    let e = whole (pos 0) in
    let m : ℕ → ℤ = λ k. multiple n (get_or ls k e) in
    gap_above (m i) (m j) (m 0)
    (elim (first_or_later (λ k. m 0 <ℤ m k) i (λ p. (multiple_rises Max n ls 0 i e over up p (omega arith)).0 refl)) [
      | inl same ↦ inl (ap m same)
      | inr later ↦ inr later
    ])
    ((multiple_rises Max n ls i j e over up l within).0 refl)
gap_rises Min n ls i j over up l within =
    let e = whole (pos 0) in
    let m : ℕ → ℤ = λ k. multiple n (get_or ls k e) in
    gap_below (m i) (m j) (m 0)
    (elim (first_or_later (λ k. m k <ℤ m 0) i (λ p. (multiple_rises Min n ls 0 i e over up p (omega arith)).1 refl)) [
      | inl same ↦ inl (ap m same)
      | inr later ↦ inr later
    ])
    ((multiple_rises Min n ls i j e over up l within).1 refl)

pub gap_first : (n : ℕ) (ls : List Amount) → gap n ls 0 ≡ 0
gap_first n ls = difference_itself (multiple n (get_or ls 0 (whole (pos 0))))
  where
    difference_itself : (a : ℤ) → unsigned_abs (a -ℤ a) ≡ 0
    difference_itself a = omega (arith, ints)

-- ---- the list of distances
pub length-distances_of : (n : ℕ) (ls : List Amount) → length (distances_of n ls) ≡ length ls
length-distances_of n ls = length-map ls (λ p. pos (unsigned_abs (multiple n p -ℤ multiple n (get_or ls 0 (whole (pos 0))))))

pub entry-distances_of : (n : ℕ) (ls : List Amount) (k : ℕ) → k < length ls → entry (distances_of n ls) k ≡ pos (gap n ls k)
entry-distances_of n ls k within = get_or-map (λ p. pos (unsigned_abs (multiple n p -ℤ multiple n (get_or ls 0 (whole (pos 0)))))) ls k (whole (pos 0)) (pos 0) within

-- ---- steps of the loops
pub fold_more : (d : ℕ) (ps : List Amount) (k : ℕ) (e : Amount) → k < length ps → fold with_denominator d (drop k ps) ≡ fold with_denominator (with_denominator d (get_or ps k e)) (drop (k + 1) ps)
fold_more d ps k e h = rw (add-one, drop-cons ps k e h) refl

-- what passes the limit on the way passes it at the end
pub fold_passes : (d n : ℕ) (ps : List Amount) → 0 < d → All IsAmount ps → n ≤ d → n ≤ fold with_denominator d ps
fold_passes d n ps h all l = omega (arith, le_of_dvd (fold_positive d ps h all) (start-dvd-fold d ps))

pub gcd_below : (a b m : ℕ) → a < m → b < m → gcd a b < m
gcd_below a zero m h k = subst (λ (x : ℕ). x < m) (sym (gcd-zero_right a)) h
gcd_below a (suc b) m h k = let l : gcd a (suc b) ≤ suc b = le_of_dvd (omega arith) (gcd-dvd_right a (suc b)) in omega arith

-- the quotients of numbers not below 0
pub exact_quotient-pos : (x g : ℕ) → exact_quotient (pos x) g ≡ pos (x / g)
exact_quotient-pos x g = refl

pub div-le-div : (x y g : ℕ) → x ≤ y → x / g ≤ y / g
div-le-div x y zero h = omega (arith, div-zero x, div-zero y)
div-le-div x y (suc g) h = le-div (x / suc g) y (suc g) (omega arith) (omega (arith, div-mul-le_self x (suc g)))

abbrev pub nothing : Amount
nothing = record { num = pos 0; den = pos 0 }

pub next_is : (common g den a b : ℕ) (p : Amount) → IsAmount p → den ≡ unsigned_abs (to_z w64 (of_z w64 p.den)) → g ≡ gcd common den → a ≡ common / g → b ≡ den → a * b ≡ with_denominator common p
next_is common g den a b p h den-is g-is a-is b-is =
    let bounded = h.den_bounded in
    let fits : SFits w64 p.den = omega (arith, ints) in
    let e : den ≡ unsigned_abs p.den = den-is ∙ ap unsigned_abs (to_z-of_z w64 p.den fits) in
    ap₂ (λ (x y : ℕ). x * y) (a-is ∙ ap (λ (x : ℕ). common / x) (g-is ∙ ap (gcd common) e)) (b-is ∙ e)

pub passes_limit : (common next k : ℕ) (ps : List Amount) (e : Amount) → k < length ps → 0 < common → All IsAmount ps → fold with_denominator common (drop k ps) ≡ common_denominator ps → next ≡ with_denominator common (get_or ps k e) → AMOUNT_LIMIT ≤ next → AMOUNT_LIMIT ≤ common_denominator ps
passes_limit common next k ps e within h all is next-is l =
    let p = get_or ps k e in
    let more : fold with_denominator (with_denominator common p) (drop (k + 1) ps) ≡ common_denominator ps = sym (fold_more common ps k e within) ∙ is in
    let positive : 0 < with_denominator common p = multiple_positive common (unsigned_abs p.den) h (denominator_positive p (all k e within)) in
    let passed = fold_passes (with_denominator common p) AMOUNT_LIMIT (drop (k + 1) ps) positive (All-drop IsAmount (k + 1) ps all) (subst (λ (x : ℕ). AMOUNT_LIMIT ≤ x) next-is l) in
    subst (λ (x : ℕ). AMOUNT_LIMIT ≤ x) more passed

pub fold_next : (common next k : ℕ) (ps : List Amount) (e : Amount) → k < length ps → fold with_denominator common (drop k ps) ≡ common_denominator ps → next ≡ with_denominator common (get_or ps k e) → fold with_denominator next (drop (k + 1) ps) ≡ common_denominator ps
fold_next common next k ps e within is next-is = ap (λ (d : ℕ). fold with_denominator d (drop (k + 1) ps)) next-is ∙ sym (fold_more common ps k e within) ∙ is

-- the distance that the code works out
pub distance_read : (common k n : ℕ) (ls : List Amount) (a b : ℤ) → k < length ls → unsigned_abs a < 10 ^ 36 → unsigned_abs b < 10 ^ 36 → a ≡ multiple common (get_or ls k nothing) → b ≡ multiple common (get_or ls 0 nothing)
    → n ≡ unsigned_abs (to_z w128 (of_z w128 (to_z w128 (of_z w128 a) -ℤ to_z w128 (of_z w128 b)))) → n ≡ unsigned_abs (entry (distances_of common ls) k)
distance_read common k n ls a b within small-a small-b a-is b-is n-is =
    let fa : SFits w128 a = omega (arith, ints) in
    let fb : SFits w128 b = omega (arith, ints) in
    let fd : SFits w128 (a -ℤ b) = omega (arith, ints) in
    let e = whole (pos 0) in
    n-is ∙ ap unsigned_abs (ap (λ (x : ℤ). to_z w128 (of_z w128 x)) (ap₂ (λ (x y : ℤ). x -ℤ y) (to_z-of_z w128 a fa) (to_z-of_z w128 b fb)) ∙ to_z-of_z w128 (a -ℤ b) fd
    ∙ ap₂ (λ (x y : ℤ). x -ℤ y) (a-is ∙ ap (multiple common) (get_or_default ls k nothing e within)) (b-is ∙ ap (multiple common) (get_or_default ls 0 nothing e (omega arith))))
    ∙ ap unsigned_abs (sym (entry-distances_of common ls k within))

-- ---- distances of a criterion's levels
pub distance-gap : (t : DecisionTable) (i r : ℕ) (ls : List Amount) → IsLevels (direction_at t i) (performances_on t i) ls → r < length ls → distance t i r ≡ gap (common_denominator (performances_on t i)) ls r
distance-gap t i r ls up within =
    let n = common_denominator (performances_on t i) in
    let e = whole (pos 0) in
    ap₂ (λ (x y : Amount). unsigned_abs (multiple n x -ℤ multiple n y)) (level_at-IsLevels t i r ls e up within) (level_at-IsLevels t i 0 ls e up (omega arith))

abbrev pub all_distances : DecisionTable → ℕ → List ℤ
all_distances t i = map (λ r. pos (distance t i r)) (range_with_len 0 (steps t i + 1))

pub distances_are : (t : DecisionTable) (i : ℕ) (ls : List Amount) → IsLevels (direction_at t i) (performances_on t i) ls → length ls ≡ steps t i + 1 → all_distances t i ≡ distances_of (common_denominator (performances_on t i)) ls
distances_are t i ls up number =
    let f : ℕ → ℤ = λ r. pos (distance t i r) in
    let n = common_denominator (performances_on t i) in
    let first : length (all_distances t i) ≡ steps t i + 1 = length-map-range_with_len f 0 (steps t i + 1) in
    let second : length (distances_of n ls) ≡ length ls = length-distances_of n ls in
    ext_get_or (pos 0) (all_distances t i) (distances_of n ls) (omega arith)
    (λ k l.
    let within : k < length ls = omega arith in
    get_or-map-range_with_len f 0 (steps t i + 1) k k (pos 0) (omega arith) (omega arith) ∙ ap pos (distance-gap t i k ls up within) ∙ sym (entry-distances_of n ls k within))

pub distance-rises : (t : DecisionTable) (i r s : ℕ) → All IsAmount (performances_on t i) → r < s → s ≤ steps t i → distance t i r < distance t i s
distance-rises t i r s all l le =
    let levels = levels_exist (direction_at t i) (performances_on t i) all in
    let ls = levels.0 in
    let up = levels.1 in
    let n = common_denominator (performances_on t i) in
    let within : s < length ls = omega (arith, steps-levels t i ls up) in
    let rise = gap_rises (direction_at t i) n ls r s (AreOver-levels (direction_at t i) (performances_on t i) ls all up) up.rises l within in
    omega (arith, distance-gap t i r ls up (omega arith), distance-gap t i s ls up within)

pub distance-le : (t : DecisionTable) (i r s : ℕ) → All IsAmount (performances_on t i) → r ≤ s → s ≤ steps t i → distance t i r ≤ distance t i s
distance-le t i r s all l le =
    elim (cases_lt r s) [
      | inl less ↦ omega (arith, distance-rises t i r s all less le)
      | inr ge ↦ let same : s ≡ r = omega arith in subst (λ (x : ℕ). distance t i r ≤ distance t i x) (sym same) (omega arith)
    ]

pub distance-first : (t : DecisionTable) (i : ℕ) → distance t i 0 ≡ 0
distance-first t i = nothing_apart (multiple (common_denominator (performances_on t i)) (level t i 0))
  where
    nothing_apart : (a : ℤ) → unsigned_abs (a -ℤ a) ≡ 0
    nothing_apart a = omega (arith, ints)

pub entry-all_distances : (t : DecisionTable) (i r : ℕ) → r ≤ steps t i → entry (all_distances t i) r ≡ pos (distance t i r)
entry-all_distances t i r le = get_or-map-range_with_len (λ x. pos (distance t i x)) 0 (steps t i + 1) r r (pos 0) (omega arith) (omega arith)

pub length-all_distances : (t : DecisionTable) (i : ℕ) → length (all_distances t i) ≡ steps t i + 1
length-all_distances t i = length-map-range_with_len (λ x. pos (distance t i x)) 0 (steps t i + 1)

abbrev pub divisor : DecisionTable → ℕ → ℕ
divisor t i = gcd_of (all_distances t i)

pub divisor_positive : (t : DecisionTable) (i : ℕ) → All IsAmount (performances_on t i) → 0 < steps t i → 0 < divisor t i
divisor_positive t i all some =
    let rise = distance-rises t i 0 (steps t i) all some (omega arith) in
    let e = entry-all_distances t i (steps t i) (omega arith) in
    gcd_of_positive (all_distances t i) (steps t i) (subst (λ (x : ℤ). 0 < unsigned_abs x) (sym e) (omega arith))

-- ---- weights
pub length-weights : (t : DecisionTable) (i : ℕ) → length (weights t i) ≡ steps t i + 1
length-weights t i = length-divided (all_distances t i) (divisor t i) ∙ length-all_distances t i

pub entry-weights : (t : DecisionTable) (i r : ℕ) → r ≤ steps t i → entry (weights t i) r ≡ pos (distance t i r / divisor t i)
entry-weights t i r le =
    entry-divided (all_distances t i) (divisor t i) r (omega (arith, length-all_distances t i)) ∙ ap (λ (x : ℤ). exact_quotient x (divisor t i)) (entry-all_distances t i r le)

pub weight-is : (t : DecisionTable) (i r : ℕ) → weight t i r ≡ pos (distance t i (min r (steps t i)) / divisor t i)
weight-is t i r = entry-weights t i (min r (steps t i)) (omega arith)

pub weight-at : (t : DecisionTable) (i r : ℕ) → r ≤ steps t i → weight t i r ≡ pos (distance t i r / divisor t i)
weight-at t i r le = let e : min r (steps t i) ≡ r = omega arith in weight-is t i r ∙ ap (λ (k : ℕ). pos (distance t i k / divisor t i)) e

pub weight-not_below_zero : (t : DecisionTable) (i r : ℕ) → pos 0 ≤ℤ weight t i r
weight-not_below_zero t i r = subst (λ (x : ℤ). pos 0 ≤ℤ x) (sym (weight-is t i r)) (omega (arith, ints))

pub weight-first : (t : DecisionTable) (i : ℕ) → weight t i 0 ≡ pos 0
weight-first t i = weight-at t i 0 (omega arith) ∙ ap (λ (x : ℕ). pos (x / divisor t i)) (distance-first t i) ∙ ap pos (zero-div (divisor t i))

pub weight-le : (t : DecisionTable) (i r s : ℕ) → All IsAmount (performances_on t i) → r ≤ s → weight t i r ≤ℤ weight t i s
weight-le t i r s all l =
    let d = div-le-div (distance t i (min r (steps t i))) (distance t i (min s (steps t i))) (divisor t i) (distance-le t i (min r (steps t i)) (min s (steps t i)) all (omega arith) (omega arith)) in
    le_between (weight t i r) (weight t i s) _ _ (weight-is t i r) (weight-is t i s) d
  where
    le_between : (a b : ℤ) (m n : ℕ) → a ≡ pos m → b ≡ pos n → m ≤ n → a ≤ℤ b
    le_between a b m n e f l = omega (arith, ints)

pub quotient_times : (t : DecisionTable) (i r : ℕ) → r ≤ steps t i → distance t i r / divisor t i * divisor t i ≡ distance t i r
quotient_times t i r le =
    div-mul_cancel (divisor t i) (subst (λ (x : ℤ). divisor t i ∣ unsigned_abs x) (entry-all_distances t i r le) (gcd_of-entry (all_distances t i) r))

pub weight-rises : (t : DecisionTable) (i r s : ℕ) → All IsAmount (performances_on t i) → r < s → s ≤ steps t i → weight t i r <ℤ weight t i s
weight-rises t i r s all l le =
    let d = distance-rises t i r s all l le in
    let a = quotient_times t i r (omega arith) in
    let b = quotient_times t i s le in
    let less : distance t i r / divisor t i < distance t i s / divisor t i = lt_of_mul-lt-mul_right (divisor t i) (omega arith) in
    lt_between (weight t i r) (weight t i s) _ _ (weight-at t i r (omega arith)) (weight-at t i s le) less
  where
    lt_between : (a b : ℤ) (m n : ℕ) → a ≡ pos m → b ≡ pos n → m < n → a <ℤ b
    lt_between a b m n e f l = omega (arith, ints)

pub weight-below : (t : DecisionTable) (i r m : ℕ) → All IsAmount (performances_on t i) → distance t i (steps t i) < m → unsigned_abs (weight t i r) < m
weight-below t i r m all l =
    let a = distance-le t i (min r (steps t i)) (steps t i) all (omega arith) (omega arith) in
    let b = div-le_self (distance t i (min r (steps t i))) (divisor t i) in
    subst (λ (x : ℤ). unsigned_abs x < m) (sym (weight-is t i r)) (omega arith)

-- ---- wide weights
both : (a b : Bool) → a ≡ true → b ≡ true → (a && b) ≡ true
both true b h k = k
both false b h k = absurd cc

one_of : (a b : Bool) → (a ≡ true) ⊎ (b ≡ true) → (a || b) ≡ true
one_of true b h = refl
one_of false b (inl h) = absurd cc
one_of false b (inr h) = h

neither : (a b c : Bool) → b ≡ false → c ≡ false → (a && (b || c)) ≡ false
neither true true c h k = absurd cc
neither true false c h k = k
neither false b c h k = refl

neither_parts : (a b c : Bool) → (a && (b || c)) ≡ false → a ≡ true → (b ≡ false) × (c ≡ false)
neither_parts true true c h k = absurd cc
neither_parts true false c h k = (refl, h)
neither_parts false b c h k = absurd cc

and_none : (a b : Bool) → (a ≡ false) ⊎ (b ≡ false) → (a && b) ≡ false
and_none true b (inl h) = absurd cc
and_none true b (inr h) = h
and_none false b h = refl

pub has_weights-parts : (t : DecisionTable) (i : ℕ) → has_weights t i ≡ true → (is_linear t i ≡ true) × (0 < steps t i)
has_weights-parts t i h = let p = and_parts (is_linear t i) (nat_lt 0 (steps t i)) h in (p.0, ltb-true 0 (steps t i) p.1)

pub has_weights-from : (t : DecisionTable) (i : ℕ) → is_linear t i ≡ true → 0 < steps t i → has_weights t i ≡ true
has_weights-from t i h k = both (is_linear t i) (nat_lt 0 (steps t i)) h (lt-ltb 0 (steps t i) k)

pub has_weights-none : (t : DecisionTable) (i : ℕ) → (is_linear t i ≡ false) ⊎ (steps t i ≡ 0) → has_weights t i ≡ false
has_weights-none t i (inl h) = and_none (is_linear t i) (nat_lt 0 (steps t i)) (inl h)
has_weights-none t i (inr h) = and_none (is_linear t i) (nat_lt 0 (steps t i)) (inr (le-ltb 0 (steps t i) (omega arith)))

pub wide_denominator : (t : DecisionTable) (i : ℕ) → has_weights t i ≡ true → AMOUNT_LIMIT ≤ common_denominator (performances_on t i) → has_wide_weights t i ≡ true
wide_denominator t i h l = both (has_weights t i) _ h (one_of (nat_le AMOUNT_LIMIT (common_denominator (performances_on t i))) _ (inl (le-leb AMOUNT_LIMIT (common_denominator (performances_on t i)) l)))

pub wide_distance : (t : DecisionTable) (i : ℕ) → has_weights t i ≡ true → AMOUNT_LIMIT ≤ distance t i (steps t i) → has_wide_weights t i ≡ true
wide_distance t i h l = both (has_weights t i) _ h (one_of _ (nat_le AMOUNT_LIMIT (distance t i (steps t i))) (inr (le-leb AMOUNT_LIMIT (distance t i (steps t i)) l)))

pub not_wide : (t : DecisionTable) (i : ℕ) → common_denominator (performances_on t i) < AMOUNT_LIMIT → distance t i (steps t i) < AMOUNT_LIMIT → has_wide_weights t i ≡ false
not_wide t i h k = neither (has_weights t i) _ _ (lt-leb AMOUNT_LIMIT (common_denominator (performances_on t i)) h) (lt-leb AMOUNT_LIMIT (distance t i (steps t i)) k)

pub has_wide_weights-none : (t : DecisionTable) (i : ℕ) → has_weights t i ≡ false → has_wide_weights t i ≡ false
has_wide_weights-none t i h = and_none (has_weights t i) _ (inl h)

pub narrow_distance : (t : DecisionTable) (i : ℕ) → has_wide_weights t i ≡ false → has_weights t i ≡ true → distance t i (steps t i) < AMOUNT_LIMIT
narrow_distance t i h k = leb-false AMOUNT_LIMIT (distance t i (steps t i)) (neither_parts (has_weights t i) _ _ h k).1

-- ---- the weights of the criteria before one
pub record AreWeightsBefore (t : DecisionTable) (n : ℕ) (all : List (Vec ℤ)) : Type 0 where
  pub number : length all ≡ n
  pub each : (i : ℕ) (d : Vec ℤ) → i < n → has_weights t i ≡ true → (get_or all i d).items ≡ weights t i

pub AreWeightsBefore-none : (t : DecisionTable) → AreWeightsBefore t 0 []
AreWeightsBefore-none t = record { number = refl; each = λ i d lt. absurd (omega arith) }

pub AreWeightsBefore-more : (t : DecisionTable) (n : ℕ) (all more : List (Vec ℤ)) (v : Vec ℤ) → AreWeightsBefore t n all → (has_weights t n ≡ true → v.items ≡ weights t n) → more ≡ all ++ v ∷ [] → AreWeightsBefore t (n + 1) more
AreWeightsBefore-more t n all more v before here is = subst (AreWeightsBefore t (n + 1)) (sym is) (record {
  number = length_push all v ∙ ap (λ m. m + 1) before.number;
  each = λ i d lt has. elim (cases_lt i n) [
    | inl earlier ↦ ap (λ (x : Vec ℤ). x.items) (get_or_append_left all (v ∷ []) d i (omega (arith, before.number))) ∙ before.each i d earlier has
    | inr later ↦
        let same : n ≡ i = omega arith in
        let at : get_or (all ++ v ∷ []) i d ≡ v = get_or_push all v d i (before.number ∙ same) in
        ap (λ (x : Vec ℤ). x.items) at ∙ here (subst (λ m. has_weights t m ≡ true) (sym same) has) ∙ ap (weights t) same
  ];
})

pub AreWeightsOfEach-all : (t : DecisionTable) (n : ℕ) (all : List (Vec ℤ)) → AreWeightsBefore t n all → n ≡ length t.criteria → AreWeightsOfEach t all
AreWeightsOfEach-all t n all before is = record { number = before.number ∙ is; each = λ i d lt has. before.each i d (omega arith) has }

-- ---- wide somewhere
pub list_any-more : (p : ℕ → Bool) (n : ℕ) → list_any p (range_with_len 0 n) ≡ false → p n ≡ false → list_any p (range_with_len 0 (n + 1)) ≡ false
list_any-more p n h k = ap (list_any p) (range_more 0 n n (omega arith)) ∙ list_any-append p (range_with_len 0 n) (n ∷ []) ∙ neither_of (list_any p (range_with_len 0 n)) (p n) h k
  where
    neither_of : (a b : Bool) → a ≡ false → b ≡ false → (a || (b || false)) ≡ false
    neither_of true b h k = absurd cc
    neither_of false true h k = absurd cc
    neither_of false false h k = refl

pub list_any-at : (p : ℕ → Bool) (n i : ℕ) → i < n → p i ≡ true → list_any p (range_with_len 0 n) ≡ true
list_any-at p n i l h =
    let at : get_or (range_with_len 0 n) i i ≡ i = omega (arith, get_or-range_with_len 0 n i i l) in
    list_any-from_Any p (range_with_len 0 n) (i, i, omega (arith, length-range_with_len 0 n), at, h)

pub list_any-none_at : (p : ℕ → Bool) (n i : ℕ) → i < n → list_any p (range_with_len 0 n) ≡ false → p i ≡ false
list_any-none_at p n i l h = not_true (p i) (λ e. true≢false (sym (list_any-at p n i l e) ∙ h))
  where
    not_true : (b : Bool) → (b ≡ true → ⊥) → b ≡ false
    not_true true f = absurd (f refl)
    not_true false f = refl

    true≢false : true ≡ false → ⊥
    true≢false e = absurd cc

-- ---- what the functions give
pub refuse_not : (wide : Bool) → wide ≡ false → refuse WideScale wide ≡ Ok tt
refuse_not true h = absurd cc
refuse_not false h = refl

pub refuse_wide : (wide : Bool) → wide ≡ true → refuse WideScale wide ≡ Err WideScale
refuse_wide true h = refl
refuse_wide false h = absurd cc

fault_wide : (e : DraftFault) (wide : Bool) → (e ≢ Memory → (e ≡ WideScale) × (wide ≡ true)) → IfSome (draft_fault e) (λ f. refuse WideScale wide ≡ Err f)
fault_wide Memory wide k = tt
fault_wide WideScale wide k = refuse_wide wide (k (λ no. search rules)).1
fault_wide BadId wide k = let no = (k (λ no. search rules)).0 in absurd (search rules)
fault_wide RepeatedId wide k = let no = (k (λ no. search rules)).0 in absurd (search rules)
fault_wide (TooMany what) wide k = let no = (k (λ no. search rules)).0 in absurd (search rules)
fault_wide Empty wide k = let no = (k (λ no. search rules)).0 in absurd (search rules)

pub gives_wide : {X : Type 0} (result : Result X DraftFault) (e : DraftFault) (wide : Bool) → IsErrAnd result (λ f. f ≡ e) → (e ≢ Memory → (e ≡ WideScale) × (wide ≡ true)) → Gives (λ _. tt) draft_fault result (refuse WideScale wide)
gives_wide (Ok v) e wide h k = absurd h
gives_wide (Err f) e wide h k = subst (λ x. IfSome (draft_fault x) (λ y. refuse WideScale wide ≡ Err y)) (sym h) (fault_wide e wide k)

passed_on : (o : Option DraftFault) (some all : Bool) → (some ≡ true → all ≡ true) → IfSome o (λ f. refuse WideScale some ≡ Err f) → IfSome o (λ f. refuse WideScale all ≡ Err f)
passed_on None some all h e = tt
passed_on (Some f) true all h e = ap (refuse WideScale) (h refl) ∙ e
passed_on (Some f) false all h e = absurd cc

pub gives_passed : {X : Type 0} (result : Result X DraftFault) (e : DraftFault) (some all : Bool) → IsErrAnd result (λ f. f ≡ e) → IfSome (draft_fault e) (λ f. refuse WideScale some ≡ Err f) → (some ≡ true → all ≡ true) → Gives (λ _. tt) draft_fault result (refuse WideScale all)
gives_passed (Ok v) e some all h k up = absurd h
gives_passed (Err f) e some all h k up = subst (λ x. IfSome (draft_fault x) (λ y. refuse WideScale all ≡ Err y)) (sym h) (passed_on (draft_fault e) some all up k)

pub not_from_refuse : (wide : Bool) → refuse WideScale wide ≡ Ok tt → wide ≡ false
not_from_refuse true h = absurd cc
not_from_refuse false h = refl

-- ---- what is worked out from the levels
pub wide_levels : (t : DecisionTable) (i n : ℕ) (ls : List Amount) → All IsAmount (performances_on t i) → IsLevels (direction_at t i) (performances_on t i) ls → n ≡ common_denominator (performances_on t i) → has_weights t i ≡ true → IsWideSomewhere (distances_of n ls) → has_wide_weights t i ≡ true
wide_levels t i n ls all up is has wide =
    let k = wide.0 in
    let within : k < length ls = omega (arith, wide.1, length-distances_of n ls) in
    let e = entry-distances_of n ls k within in
    let f : gap n ls k ≡ distance t i k = ap (λ (m : ℕ). gap m ls k) is ∙ sym (distance-gap t i k ls up within) in
    let g : unsigned_abs (entry (distances_of n ls) k) ≡ distance t i k = ap unsigned_abs e ∙ f in
    let most = distance-le t i k (steps t i) all (omega (arith, steps-levels t i ls up)) (omega arith) in
    wide_distance t i has (omega (arith, wide.2, g, most))

pub length_some : (t : DecisionTable) (i : ℕ) (ls : List Amount) → IsLevels (direction_at t i) (performances_on t i) ls → 0 < steps t i → length ls ≡ steps t i + 1
length_some t i ls up some = omega (arith, steps-levels t i ls up)

pub narrow_levels : (t : DecisionTable) (i n : ℕ) (ls : List Amount) → IsLevels (direction_at t i) (performances_on t i) ls → n ≡ common_denominator (performances_on t i) → 0 < steps t i → n < AMOUNT_LIMIT → All (λ d. unsigned_abs d < AMOUNT_LIMIT) (distances_of n ls) → has_wide_weights t i ≡ false
narrow_levels t i n ls up is some small narrow =
    let k = steps t i in
    let within : k < length ls = omega (arith, length_some t i ls up some) in
    let e = entry-distances_of n ls k within in
    let f : gap n ls k ≡ distance t i k = ap (λ (m : ℕ). gap m ls k) is ∙ sym (distance-gap t i k ls up within) in
    let g : unsigned_abs (entry (distances_of n ls) k) ≡ distance t i k = ap unsigned_abs e ∙ f in
    let at = narrow k (pos 0) (omega (arith, within, length-distances_of n ls)) in
    not_wide t i (omega (arith, is, small)) (omega (arith, at, g))

pub distances_worked_out : (t : DecisionTable) (i n : ℕ) (ls : List Amount) → IsLevels (direction_at t i) (performances_on t i) ls → n ≡ common_denominator (performances_on t i) → 0 < steps t i → distances_of n ls ≡ all_distances t i
distances_worked_out t i n ls up is some = ap (λ (m : ℕ). distances_of m ls) is ∙ sym (distances_are t i ls up (length_some t i ls up some))

-- ---- the weights of a table
pub weight_small : (t : DecisionTable) (i r : ℕ) → IsTable t → i < length t.criteria → has_weights t i ≡ true → unsigned_abs (weight t i r) < AMOUNT_LIMIT
weight_small t i r table within has =
    let narrow : has_wide_weights t i ≡ false = list_any-none_at (has_wide_weights t) (length t.criteria) i within table.scale_limit in
    weight-below t i r AMOUNT_LIMIT (performances_amounts t i table.evaluated within) (narrow_distance t i narrow has)

pub weights_read : (t : DecisionTable) (all : List (Vec ℤ)) (i : ℕ) (v : Vec ℤ) → AreWeightsOfEach t all → i < length t.criteria → has_weights t i ≡ true → v ≡ get_or all i v → v.items ≡ weights t i
weights_read t all i v are within has read = ap (λ (w : Vec ℤ). w.items) read ∙ are.each i v within has

pub length-weights_read : (t : DecisionTable) (all : List (Vec ℤ)) (i : ℕ) (v : Vec ℤ) → AreWeightsOfEach t all → i < length t.criteria → has_weights t i ≡ true → v ≡ get_or all i v → length v.items ≡ steps t i + 1
length-weights_read t all i v are within has read = ap length (weights_read t all i v are within has read) ∙ length-weights t i

pub weight_read : (t : DecisionTable) (all : List (Vec ℤ)) (i r : ℕ) (v : Vec ℤ) (x : ℤ) → AreWeightsOfEach t all → i < length t.criteria → has_weights t i ≡ true → r ≤ steps t i → v ≡ get_or all i v → x ≡ get_or v.items r x → x ≡ weight t i r
weight_read t all i r v x are within has le read at =
    let most : min r (steps t i) ≡ r = omega arith in
    get_or_read v.items r x (omega (arith, length-weights_read t all i v are within has read)) at (pos 0)
    ∙ ap (λ (items : List ℤ). entry items r) (weights_read t all i v are within has read) ∙ ap (entry (weights t i)) (sym most)

-- ---- ratios
pub level_over : (t : DecisionTable) (i r : ℕ) → All IsAmount (performances_on t i) → 0 < steps t i → r ≤ steps t i → IsAmount (level t i r) × (unsigned_abs (level t i r).den ∣ common_denominator (performances_on t i))
level_over t i r all some le =
    let levels = levels_exist (direction_at t i) (performances_on t i) all in
    let ls = levels.0 in
    let up = levels.1 in
    let e = whole (pos 0) in
    let over = AreOver-levels (direction_at t i) (performances_on t i) ls all up in
    let within : r < length ls = omega (arith, length_some t i ls up some) in
    let at = level_at-IsLevels t i r ls e up within in
    subst (λ (p : Amount). IsAmount p × (unsigned_abs p.den ∣ common_denominator (performances_on t i))) (sym at) (over.amounts r e within, over.divides r e within)

same_ratio : (k g n w v a b dp dq dz x y : ℤ) → k ≡ g *ℤ (n *ℤ dz) → pos 0 <ℤ k → w *ℤ g ≡ x → v *ℤ g ≡ y → (dp *ℤ dz) *ℤ x ≡ n *ℤ b → (dq *ℤ dz) *ℤ y ≡ n *ℤ a → w *ℤ (a *ℤ dp) ≡ v *ℤ (b *ℤ dq)
same_ratio k g n w v a b dp dq dz x y k-is positive wx vy xb ya =
    cancel k (w *ℤ (a *ℤ dp)) (v *ℤ (b *ℤ dq)) positive
    (ap (λ (m : ℤ). m *ℤ (w *ℤ (a *ℤ dp))) k-is
    ∙ spread_out w g n a dp dz
    ∙ ap₂ (λ (m l : ℤ). (m *ℤ l) *ℤ (dp *ℤ dz)) wx (sym ya)
    ∙ ring5 (λ x y dp dq dz. (x ⊗ ((dq ⊗ dz) ⊗ y)) ⊗ (dp ⊗ dz)) (λ x y dp dq dz. (y ⊗ ((dp ⊗ dz) ⊗ x)) ⊗ (dq ⊗ dz)) refl x y dp dq dz
    ∙ ap₂ (λ (m l : ℤ). (m *ℤ l) *ℤ (dq *ℤ dz)) (sym vy) xb
    ∙ sym (spread_out v g n b dq dz)
    ∙ ap (λ (m : ℤ). m *ℤ (v *ℤ (b *ℤ dq))) (sym k-is))
  where
    spread_out : (w g n a d z : ℤ) → (g *ℤ (n *ℤ z)) *ℤ (w *ℤ (a *ℤ d)) ≡ ((w *ℤ g) *ℤ (n *ℤ a)) *ℤ (d *ℤ z)
    spread_out w g n a d z = ring6 (λ w g n a d z. (g ⊗ (n ⊗ z)) ⊗ (w ⊗ (a ⊗ d))) (λ w g n a d z. ((w ⊗ g) ⊗ (n ⊗ a)) ⊗ (d ⊗ z)) refl w g n a d z

weight_times : (t : DecisionTable) (i r : ℕ) → r ≤ steps t i → weight t i r *ℤ pos (divisor t i) ≡ pos (distance t i r)
weight_times t i r le = ap (λ (x : ℤ). x *ℤ pos (divisor t i)) (weight-at t i r le) ∙ ap pos (quotient_times t i r le)

pub weights_in_ratio : (t : DecisionTable) (i r s : ℕ) → All IsAmount (performances_on t i) → 0 < steps t i → r ≤ steps t i → s ≤ steps t i
    → weight t i r *ℤ (pos (apart (level t i s) (level t i 0)) *ℤ (level t i r).den) ≡ weight t i s *ℤ (pos (apart (level t i r) (level t i 0)) *ℤ (level t i s).den)
weights_in_ratio t i r s all some hr hs =
    let n = common_denominator (performances_on t i) in
    let p = level t i r in
    let q = level t i s in
    let z = level t i 0 in
    let op = level_over t i r all some hr in
    let oq = level_over t i s all some hs in
    let oz = level_over t i 0 all some (omega arith) in
    let gp = divisor_positive t i all some in
    let np = common_positive (performances_on t i) all in
    let a : pos 0 <ℤ pos (divisor t i) = omega (arith, ints) in
    let b : pos 0 <ℤ pos n = omega (arith, ints) in
    same_ratio (pos (divisor t i) *ℤ (pos n *ℤ z.den)) (pos (divisor t i)) (pos n) (weight t i r) (weight t i s) (pos (apart q z)) (pos (apart p z)) p.den q.den z.den (pos (distance t i r)) (pos (distance t i s))
    refl (product_positive (pos (divisor t i)) (pos n *ℤ z.den) a (product_positive (pos n) z.den b oz.0.positive))
    (weight_times t i r hr) (weight_times t i s hs) (multiple_apart n p z op.0 oz.0 op.1 oz.1) (multiple_apart n q z oq.0 oz.0 oq.1 oz.1)

pub weights_are_ratios : (t : DecisionTable) (i : ℕ) → IsTable t → i < length t.criteria → has_weights t i ≡ true → AreRatios t i
weights_are_ratios t i table within has =
    let all = performances_amounts t i table.evaluated within in
    let some = (has_weights-parts t i has).1 in
    record {
      number = length-weights t i;
      worst = weight-first t i;
      rising = λ r s l le. weight-rises t i r s all l le;
      coprime = divided_coprime (all_distances t i) (divisor_positive t i all some);
      ratios = λ r s hr hs. weights_in_ratio t i r s all some hr hs;
    }
