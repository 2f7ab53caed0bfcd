-- Divisors of sums, and numbers without a common divisor.
use Rattle.std.proofs.Common.{◌≡◌, ℕ, ℤ, pos, ◌+ℤ◌, ◌*ℤ◌, neg_ℤ, unsigned_abs, ap₂, sym, ◌∙◌, subst, arith}
use Prim.Native.Nat.{◌∣◌}
use Rattle.std.proofs.Math.Nat.{dvd_trans, dvd-mul_left, dvd-mul_right, eq-one_of_dvd-one}
use Rattle.std.proofs.lemmas.Int.{ints, unsigned_abs-mul}
use Rattle.ror_integers.specs.Gcd.{gcd, int_gcd, exact_quotient}
use Rattle.ror_integers.proofs.Ring.{sum-product}
use Rattle.ror_integers.proofs.Gcd.{gcd-dvd_left, gcd-dvd_right, dvd-gcd, gcd_comm, gauss, exact_quotient_times}

-- ---- sums
pub dvd-absolute_product_right : (x y : ℤ) → unsigned_abs y ∣ unsigned_abs (x *ℤ y)
dvd-absolute_product_right x y = subst (λ (n : ℕ). unsigned_abs y ∣ n) (sym (unsigned_abs-mul x y)) (dvd-mul_left (unsigned_abs y) (unsigned_abs x))

pub dvd-absolute_product_left : (x y : ℤ) → unsigned_abs x ∣ unsigned_abs (x *ℤ y)
dvd-absolute_product_left x y = subst (λ (n : ℕ). unsigned_abs x ∣ n) (sym (unsigned_abs-mul x y)) (dvd-mul_right (unsigned_abs x) (unsigned_abs y))

pub dvd-sum : (d : ℕ) (x y : ℤ) → d ∣ unsigned_abs x → d ∣ unsigned_abs y → d ∣ unsigned_abs (x +ℤ y)
dvd-sum d x y h k =
    subst (λ (z : ℤ). d ∣ unsigned_abs z) (sum-product (exact_quotient x d) (exact_quotient y d) (pos d) ∙ ap₂ (λ (a b : ℤ). a +ℤ b) (exact_quotient_times x d h) (exact_quotient_times y d k))
    (dvd-absolute_product_right (exact_quotient x d +ℤ exact_quotient y d) (pos d))

pub dvd-summand : (d : ℕ) (x y : ℤ) → d ∣ unsigned_abs (x +ℤ y) → d ∣ unsigned_abs y → d ∣ unsigned_abs x
dvd-summand d x y h k =
    let e : unsigned_abs (neg_ℤ y) ≡ unsigned_abs y = omega (arith, ints) in
    let f : (x +ℤ y) +ℤ neg_ℤ y ≡ x = omega (arith, ints) in
    subst (λ (z : ℤ). d ∣ unsigned_abs z) f (dvd-sum d (x +ℤ y) (neg_ℤ y) h (subst (λ (n : ℕ). d ∣ n) (sym e) k))

-- ---- numbers whose greatest common divisor is 1
pub coprime_divisor : (a b c : ℕ) → gcd a b ≡ 1 → c ∣ b → gcd a c ≡ 1
coprime_divisor a b c e h = eq-one_of_dvd-one (subst (λ (n : ℕ). gcd a c ∣ n) e (dvd-gcd (gcd a c) a b (gcd-dvd_left a c) (dvd_trans (gcd a c) (gcd-dvd_right a c) h)))

pub coprime_divisors : (a b c d : ℕ) → gcd a b ≡ 1 → c ∣ a → d ∣ b → gcd c d ≡ 1
coprime_divisors a b c d e h k = gcd_comm c d ∙ coprime_divisor d a c (gcd_comm d a ∙ coprime_divisor a b d e k) h

-- a sum of a product that has no divisor in common with m, and of a multiple of m
pub coprime_sum : (x y z m : ℤ) → int_gcd x m ≡ 1 → int_gcd y m ≡ 1 → int_gcd (x *ℤ y +ℤ z *ℤ m) m ≡ 1
coprime_sum x y z m e f =
    let s = x *ℤ y +ℤ z *ℤ m in
    let d = int_gcd s m in
    let of_m : d ∣ unsigned_abs m = gcd-dvd_right (unsigned_abs s) (unsigned_abs m) in
    let of_product : d ∣ unsigned_abs (x *ℤ y) = dvd-summand d (x *ℤ y) (z *ℤ m) (gcd-dvd_left (unsigned_abs s) (unsigned_abs m)) (dvd_trans d of_m (dvd-absolute_product_right z m)) in
    let with_x : gcd d (unsigned_abs x) ≡ 1 = gcd_comm d (unsigned_abs x) ∙ coprime_divisor (unsigned_abs x) (unsigned_abs m) d e of_m in
    let of_y : d ∣ unsigned_abs y = gauss d (unsigned_abs x) (unsigned_abs y) with_x (subst (λ (n : ℕ). d ∣ n) (unsigned_abs-mul x y) of_product) in
    eq-one_of_dvd-one (subst (λ (n : ℕ). d ∣ n) f (dvd-gcd d (unsigned_abs y) (unsigned_abs m) of_y of_m))
