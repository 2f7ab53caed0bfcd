-- Going through the numbers of a list that are other than 0, where what is kept of a loop lasts over each 0.
use Rattle.std.proofs.Common.{◌≡◌, ℕ, zero, suc, ◌+◌, ◌-◌, ◌<◌, ◌≤◌, List, [], ◌∷◌, length, map, drop, get_or, ℤ, pos, ◌*ℤ◌, unsigned_abs, ◌⊎◌, inl, inr, refl, sym, ap, ◌∙◌, subst, arith}
use Rattle.std.proofs.lemmas.Int.{ints}
use Rattle.std.proofs.lemmas.List.{drop_all, drop_more}
use Rattle.ror_integers.specs.Vectors.{entry, NoneNegative}
use Rattle.ror_integers.proofs.Ring.{sums}
use Rattle.ror_system.specs.Numbers.{AreTheOthers}
use Rattle.ror_system.proofs.NumberLemmas.{value_is}
use Rattle.ror_system.proofs.Sums.{IsLeft, IsLeft-more}
use Rattle.ror_system.proofs.Totals.{IsLeftOfTotal, IsLeftOfTotal-more}

-- from some place on the numbers other than 0 are those at the places that are left, and up to there P is kept
abbrev pub IsWalked : List ℤ → List ℕ → ℕ → (ℕ → Type 0) → Type 0
IsWalked xs places i P = (from : ℕ) × AreTheOthers xs from (drop i places) × P from

-- P lasts over a 0
abbrev pub Lasts : List ℤ → (ℕ → Type 0) → Type 0
Lasts xs P = (k : ℕ) → k < length xs → entry xs k ≡ pos 0 → P k → P (k + 1)

past : (xs : List ℤ) (P : ℕ → Type 0) (from n : ℕ) → Lasts xs P → from + n ≤ length xs → ((k : ℕ) → from ≤ k → k < from + n → entry xs k ≡ pos 0) → P from → P (from + n)
past xs P from zero lasts l zeros p = let e : from ≡ from + 0 = omega arith in subst P e p
past xs P from (suc n) lasts l zeros p =
    let q = past xs P from n lasts (omega arith) (λ k a b. zeros k a (omega arith)) p in
    let e : from + n + 1 ≡ from + suc n = omega arith in
    subst P e (lasts (from + n) (omega arith) (zeros (from + n) (omega arith) (omega arith)) q)

up_to_place : (xs : List ℤ) (P : ℕ → Type 0) (from to : ℕ) → Lasts xs P → from ≤ to → to ≤ length xs → ((k : ℕ) → from ≤ k → k < to → entry xs k ≡ pos 0) → P from → P to
up_to_place xs P from to lasts l m zeros p =
    let e : from + (to - from) ≡ to = omega arith in
    subst P e (past xs P from (to - from) lasts (omega arith) (λ k a b. zeros k a (omega arith)) p)

next_of : (xs : List ℤ) (from : ℕ) (places : List ℕ) (i : ℕ) → AreTheOthers xs from (drop i places) → i < length places → AreTheOthers xs from (get_or places i 0 ∷ drop (i + 1) places)
next_of xs from places i h l = subst (AreTheOthers xs from) (drop_more places i 0 l) h

pub IsWalked-at : (xs : List ℤ) (places : List ℕ) (i place : ℕ) (P : ℕ → Type 0) → Lasts xs P → i < length places → place ≡ get_or places i 0 → IsWalked xs places i P → (place < length xs) × P place
IsWalked-at xs places i place P lasts l is w =
    let h = next_of xs w.0 places i w.1 l in
    let m = h.1 in
    let all : (get_or places i 0 < length xs) × P (get_or places i 0) = (h.1, up_to_place xs P w.0 (get_or places i 0) lasts h.0 (omega arith) h.2 w.2) in
    subst (λ (k : ℕ). (k < length xs) × P k) (sym is) all

pub IsWalked-more : (xs : List ℤ) (places : List ℕ) (i place : ℕ) (P Q : ℕ → Type 0) → i < length places → place ≡ get_or places i 0 → IsWalked xs places i P → Q (place + 1) → IsWalked xs places (i + 1) Q
IsWalked-more xs places i place P Q l is w q =
    let h = next_of xs w.0 places i w.1 l in
    (place + 1, subst (λ (k : ℕ). AreTheOthers xs (k + 1) (drop (i + 1) places)) (sym is) h.3, q)

pub IsWalked-end : (xs : List ℤ) (places : List ℕ) (i : ℕ) (P : ℕ → Type 0) → Lasts xs P → length places ≤ i → IsWalked xs places i P → (n : ℕ) × (length xs ≤ n) × P n
IsWalked-end xs places i P lasts l w =
    let h = subst (AreTheOthers xs w.0) (drop_all i places l) w.1 in
    past_end xs P w.0 lasts h w.2
  where
    split : (a b : ℕ) → (a ≤ b) ⊎ (b ≤ a)
    split a b = grind arith

    past_end : (xs : List ℤ) (P : ℕ → Type 0) (from : ℕ) → Lasts xs P → ((k : ℕ) → from ≤ k → entry xs k ≡ pos 0) → P from → (n : ℕ) × (length xs ≤ n) × P n
    past_end xs P from lasts h p = elim (split from (length xs)) [
      | inl a ↦ (length xs, omega arith, up_to_place xs P from (length xs) lasts a (omega arith) (λ k b c. h k b) p)
      | inr a ↦ (from, a, p)
    ]

-- ---- what is kept
last_of : (k n : ℕ) → k < n + 1 → (k < n) ⊎ (k ≡ n)
last_of k n l = grind arith

pub holds_more : (Q : ℤ → Type 0) (xs : List ℤ) (n : ℕ) → ((k : ℕ) → k < n → Q (entry xs k)) → Q (entry xs n) → (k : ℕ) → k < n + 1 → Q (entry xs k)
holds_more Q xs n h q k l = elim (last_of k n l) [
  | inl a ↦ h k a
  | inr e ↦ subst (λ (j : ℕ). Q (entry xs j)) (sym e) q
]

pub Lasts-holds : (Q : ℤ → Type 0) (xs : List ℤ) → Q (pos 0) → Lasts xs (λ from. (k : ℕ) → k < from → Q (entry xs k))
Lasts-holds Q xs z k l e p = holds_more Q xs k p (subst Q (sym e) z)

times_zero : (x : ℤ) → x *ℤ pos 0 ≡ pos 0
times_zero x = omega (arith, ints)

zero_times : (x : ℤ) → pos 0 *ℤ x ≡ pos 0
zero_times x = omega (arith, ints)

-- a 0 adds nothing to a sum of products, on either side
pub Lasts-right : (value start : ℤ) (width begun : ℕ) (xs ys : List ℤ) → length xs ≡ length ys → Lasts ys (IsLeft value start width begun xs ys)
Lasts-right value start width begun xs ys n k l e h =
    let z = times_zero (entry xs k) in
    let u : unsigned_abs (entry xs k *ℤ pos 0) ≡ 0 = ap unsigned_abs z in
    IsLeft-more value start width begun xs ys k value width (entry xs k) (pos 0) h (omega arith) l refl (sym e) (omega (arith, sums)) (omega arith)

pub Lasts-left : (value start : ℤ) (width begun : ℕ) (xs ys : List ℤ) → length xs ≡ length ys → Lasts xs (IsLeft value start width begun xs ys)
Lasts-left value start width begun xs ys n k l e h =
    let z = zero_times (entry ys k) in
    let u : unsigned_abs (pos 0 *ℤ entry ys k) ≡ 0 = ap unsigned_abs z in
    IsLeft-more value start width begun xs ys k value width (pos 0) (entry ys k) h l (omega arith) (sym e) refl (omega (arith, sums)) (omega arith)

pub Lasts-total : (sum : ℤ) (xs : List ℤ) → NoneNegative xs → Lasts xs (IsLeftOfTotal sum xs)
Lasts-total sum xs none k l e h = IsLeftOfTotal-more sum (pos 0) sum xs k h none l (sym e) (omega (arith, sums))

pub value_there : (xs values : List ℤ) (places : List ℕ) (i : ℕ) (x : ℤ) → values ≡ map (entry xs) places → i < length places → x ≡ entry values i → x ≡ entry xs (get_or places i 0)
value_there xs values places i x is l e = e ∙ value_is xs values places i is l

length_map : (xs : List ℤ) (places : List ℕ) → length (map (entry xs) places) ≡ length places
length_map xs [] = refl
length_map xs (place ∷ places) = ap suc (length_map xs places)

pub as_many_places : (xs values : List ℤ) (places : List ℕ) → values ≡ map (entry xs) places → length values ≡ length places
as_many_places xs values places is = ap length is ∙ length_map xs places
