-- The steps to a greatest common divisor: a remainder, factors 2 and differences of odd numbers.
use Rattle.std.proofs.Common.{◌≡◌, ℕ, zero, suc, ◌+◌, ◌-◌, ◌*◌, ◌/◌, ◌%◌, ◌^◌, ◌<◌, ◌≤◌, ◌⊎◌, inl, inr, min, max, ℤ, pos, unsigned_abs, FitsSigned, to_z, of_z, ap, ap₂, sym, ◌∙◌, subst, arith, mul-one, mul_comm}
use Prim.Native.Nat.{◌∣◌}
use Rattle.std.specs.Int.{bit_at, Width, trailing_zeros}
use mir.Val.{bits, hbits}
use Rattle.std.proofs.lemmas.Int.{to_z-of_z, to_z_pos, fits_signed_from_abs}
use Rattle.std.proofs.Math.Nat.{dvd_trans, dvd_antisymm, dvd-mul_left, eq-one_of_dvd-one, pow-suc, mod-eq_of_lt}
use Rattle.std.proofs.lemmas.Bool.{cases_lt}
use Rattle.std.proofs.lemmas.Nat.{mod-pow-add, shr_split, pow-add}
use Rattle.std.proofs.lemmas.Nat.Bits.{bit_at-trailing_zeros}
use Rattle.std.proofs.lemmas.Nat.Gcd.{dvd_refl, IsGcd-from_sub, le_of_dvd}
use Rattle.ror_integers.specs.Gcd.{gcd, int_gcd}
use Rattle.ror_integers.proofs.Gcd.{gcd_is_greatest, same_as_gcd, gcd_comm, gcd-dvd_left, gcd-dvd_right, dvd-gcd, gcd-mod, gcd-zero_left, gcd-zero_right, gcd-one_right, gcd_scaled, gauss}
use Rattle.ror_word.specs.OddParts.{IsOddPart}
use Rattle.ror_word.specs.Within.{IsWithin}

pub gcd-itself : (a : ℕ) → gcd a a ≡ a
gcd-itself a = sym (same_as_gcd a a a (dvd_refl a, dvd_refl a, λ d h k. h))

-- an odd number and 2 have no common divisor but 1
odd_and_two : (b : ℕ) → b % 2 ≡ 1 → gcd b 2 ≡ 1
odd_and_two b h = sym (gcd-mod b 2) ∙ ap (gcd 2) h ∙ gcd-one_right 2

gcd-doubled : (n b : ℕ) → b % 2 ≡ 1 → gcd (2 * n) b ≡ gcd n b
gcd-doubled n b h =
    let d = gcd (2 * n) b in
    let p = gcd-dvd_left (2 * n) b in
    let q = gcd-dvd_right (2 * n) b in
    let one = eq-one_of_dvd-one (subst (λ (x : ℕ). gcd d 2 ∣ x) (odd_and_two b h) (dvd-gcd (gcd d 2) b 2 (dvd_trans (gcd d 2) (gcd-dvd_left d 2) q) (gcd-dvd_right d 2))) in
    dvd_antisymm
    (dvd-gcd d n b (gauss d 2 n one p) q)
    (dvd-gcd (gcd n b) (2 * n) b (dvd_trans (gcd n b) (gcd-dvd_left n b) (dvd-mul_left n 2)) (gcd-dvd_right n b))

-- factors 2 of one number change nothing where the other is odd
gcd-twos : (k n b : ℕ) → b % 2 ≡ 1 → gcd (n * 2 ^ k) b ≡ gcd n b
gcd-twos zero n b h = ap (λ (x : ℕ). gcd x b) (mul-one n)
gcd-twos (suc k) n b h =
    let e : n * 2 ^ suc k ≡ 2 * (n * 2 ^ k) = omega (arith, ap (λ (x : ℕ). n * x) (pow-suc 2 k)) in
    ap (λ (x : ℕ). gcd x b) e ∙ gcd-doubled (n * 2 ^ k) b h ∙ gcd-twos k n b h

gcd-sorted : (a b : ℕ) → gcd (max a b) (min a b) ≡ gcd a b
gcd-sorted a b = by_order (cases_lt a b)
  where
    by_order : (a < b) ⊎ (b ≤ a) → gcd (max a b) (min a b) ≡ gcd a b
    by_order (inl l) =
        let g : max a b ≡ b = omega arith in
        let m : min a b ≡ a = omega arith in
        ap₂ gcd g m ∙ gcd_comm b a
    by_order (inr l) =
        let g : max a b ≡ a = omega arith in
        let m : min a b ≡ b = omega arith in
        ap₂ gcd g m

gcd-odd_difference : (a b d k : ℕ) → b ≤ a → b % 2 ≡ 1 → IsOddPart (a - b) d k → gcd b d ≡ gcd a b
gcd-odd_difference a b d k h odd part =
    gcd_comm b d ∙ sym (gcd-twos k d b odd) ∙ ap (λ (x : ℕ). gcd x b) (sym part.product)
    ∙ same_as_gcd a b (gcd (a - b) b) (IsGcd-from_sub a b (gcd (a - b) b) h (gcd_is_greatest (a - b) b))

min_is_odd : (a b : ℕ) → a % 2 ≡ 1 → b % 2 ≡ 1 → min a b % 2 ≡ 1
min_is_odd a b h k = by_order (cases_lt a b)
  where
    by_order : (a < b) ⊎ (b ≤ a) → min a b % 2 ≡ 1
    by_order (inl l) = let m : min a b ≡ a = omega arith in ap (λ (x : ℕ). x % 2) m ∙ h
    by_order (inr l) = let m : min a b ≡ b = omega arith in ap (λ (x : ℕ). x % 2) m ∙ k

-- one step of the loop over odd numbers
pub odds_step : (a b greater less d k : ℕ) → greater ≡ max a b → less ≡ min a b → a % 2 ≡ 1 → b % 2 ≡ 1 → IsOddPart (greater - less) d k → (less % 2 ≡ 1) × (gcd less d ≡ gcd a b)
odds_step a b greater less d k g l h i part =
    let p = rw (g, l) at part in
    let o = min_is_odd a b h i in
    (ap (λ (x : ℕ). x % 2) l ∙ o, ap (λ (x : ℕ). gcd x d) l ∙ gcd-odd_difference (max a b) (min a b) d k (omega arith) o p ∙ gcd-sorted a b)

shared : (i k p q : ℕ) → p % 2 ≡ 1 → gcd (p * 2 ^ i) (q * 2 ^ (i + k)) ≡ gcd p q * 2 ^ i
shared i k p q h =
    let e : q * 2 ^ (i + k) ≡ 2 ^ i * (q * 2 ^ k) = omega (arith, ap (λ (x : ℕ). q * x) (pow-add 2 i k)) in
    ap₂ gcd (mul_comm p (2 ^ i)) e ∙ gcd_scaled (2 ^ i) p (q * 2 ^ k)
    ∙ ap (λ (x : ℕ). 2 ^ i * x) (gcd_comm p (q * 2 ^ k) ∙ gcd-twos k q p h ∙ gcd_comm q p) ∙ mul_comm (2 ^ i) (gcd p q)

-- numbers by their odd parts
gcd_of_parts : (a b p q i j : ℕ) → IsOddPart a p i → IsOddPart b q j → gcd a b ≡ gcd p q * 2 ^ min i j
gcd_of_parts a b p q i j ha hb = by_order (cases_lt i j)
  where
    by_order : (i < j) ⊎ (j ≤ i) → gcd a b ≡ gcd p q * 2 ^ min i j
    by_order (inl l) =
        let e : j ≡ i + (j - i) = omega arith in
        let m : min i j ≡ i = omega arith in
        ap₂ gcd ha.product (hb.product ∙ ap (λ (x : ℕ). q * 2 ^ x) e) ∙ shared i (j - i) p q ha.is_odd ∙ ap (λ (x : ℕ). gcd p q * 2 ^ x) (sym m)
    by_order (inr l) =
        let e : i ≡ j + (i - j) = omega arith in
        let m : min i j ≡ j = omega arith in
        gcd_comm a b ∙ ap₂ gcd hb.product (ha.product ∙ ap (λ (x : ℕ). p * 2 ^ x) e) ∙ shared j (i - j) q p hb.is_odd ∙ ap₂ (λ (x y : ℕ). x * 2 ^ y) (gcd_comm q p) (sym m)

-- a number whose lowest bits are 0 is a multiple of that power of 2
low_zeros : (k n : ℕ) → ((i : ℕ) → i < k → bit_at n i ≡ 0) → n % 2 ^ k ≡ 0
low_zeros zero n h = omega arith
low_zeros (suc k) n h =
    let low = low_zeros k n (λ i l. h i (omega arith)) in
    let bit = h k (omega arith) in
    let e : 1 + k ≡ suc k = omega arith in
    let f : 0 * 2 ^ k + 0 ≡ 0 = omega arith in
    subst (λ (x : ℕ). n % 2 ^ x ≡ 0) e (mod-pow-add n 1 k ∙ ap₂ (λ (x y : ℕ). x * 2 ^ k + y) bit low ∙ f)

pub odd_part_is : (w : Width) (n : ℕ) → 0 < n → n < 2 ^ bits w → IsOddPart n (n / 2 ^ trailing_zeros w n) (trailing_zeros w n)
odd_part_is w n h f =
    let t = bit_at-trailing_zeros w n h f in
    let low = low_zeros (trailing_zeros w n) n t.2 in
    record { product = omega (arith, shr_split n (trailing_zeros w n), low); is_odd = t.1 }

-- what `gcd_64` and `gcd_128` give back where the smaller number is 0, where it divides the greater one, and else
pub gcd_where_zero : (a b greater less : ℕ) → greater ≡ max a b → less ≡ min a b → less ≡ 0 → greater ≡ gcd a b
gcd_where_zero a b greater less g l z = sym (gcd-zero_right greater) ∙ ap₂ gcd g (sym z ∙ l) ∙ gcd-sorted a b

gcd_of_rest : (a b greater less : ℕ) → greater ≡ max a b → less ≡ min a b → gcd less (greater % less) ≡ gcd a b
gcd_of_rest a b greater less g l = gcd-mod greater less ∙ ap₂ gcd g l ∙ gcd-sorted a b

pub gcd_where_divides : (a b greater less : ℕ) → greater ≡ max a b → less ≡ min a b → greater % less ≡ 0 → less ≡ gcd a b
gcd_where_divides a b greater less g l z = sym (gcd-zero_right less) ∙ ap (gcd less) (sym z) ∙ gcd_of_rest a b greater less g l

pub gcd_by_parts : (w a b greater less p q i j shift odds : ℕ) → greater ≡ max a b → less ≡ min a b → 0 < less → less < 2 ^ w → IsOddPart less p i → IsOddPart (greater % less) q j → shift ≡ min i j → odds ≡ gcd p q → (odds * 2 ^ shift) % 2 ^ w ≡ gcd a b
gcd_by_parts w a b greater less p q i j shift odds g l h f hp hq s o =
    let rest = greater % less in
    let e = gcd_of_parts less rest p q i j hp hq in
    let k = le_of_dvd h (gcd-dvd_left less rest) in
    ap (λ (x : ℕ). x % 2 ^ w) (ap₂ (λ (x y : ℕ). x * 2 ^ y) o s ∙ sym e) ∙ mod-eq_of_lt (omega arith) ∙ gcd_of_rest a b greater less g l

-- a common divisor is no greater than a limit of both numbers
pub gcd-le : (a b m : ℕ) → a ≤ m → b ≤ m → gcd a b ≤ m
gcd-le zero b m h k = rw gcd-zero_left k
gcd-le (suc a) b m h k = let l = le_of_dvd {n = suc a} (omega arith) (gcd-dvd_left (suc a) b) in omega arith

-- what `gcd` of words gives back, from the greatest common divisor of their absolute values
pub record IsGcdOfWords (w : Width) (m : ℕ) (a b : ℤ) (g : ℕ) : Type 0 where
  pub fits : FitsSigned w (pos g)
  pub greatest : to_z w g ≡ pos (int_gcd a b)
  pub within : IsWithin m (to_z w g)

pub gcd_of_words : (w : Width) (m : ℕ) (a b : ℤ) (x y g : ℕ) → m < 2 ^ hbits w → FitsSigned w a → FitsSigned w b → IsWithin m a → IsWithin m b → x ≡ unsigned_abs (to_z w (of_z w a)) → y ≡ unsigned_abs (to_z w (of_z w b)) → g ≡ gcd x y → IsGcdOfWords w m a b g
gcd_of_words w m a b x y g l fa fb ha hb ex ey e =
    let same : g ≡ int_gcd a b = e ∙ ap₂ gcd (ex ∙ ap unsigned_abs (to_z-of_z w a fa)) (ey ∙ ap unsigned_abs (to_z-of_z w b fb)) in
    let k = gcd-le (unsigned_abs a) (unsigned_abs b) m ha hb in
    let s : g ≤ m = omega arith in
    let z = to_z_pos w g (omega arith) in
    record { fits = fits_signed_from_abs w (pos g) (omega arith); greatest = z ∙ ap pos same; within = subst (λ (x : ℤ). unsigned_abs x ≤ m) (sym z) s }
