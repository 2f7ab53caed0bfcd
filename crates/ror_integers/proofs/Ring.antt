-- The laws of products of integers that the library lacks, and two sets for arithmetic with products.
--     sums       for `omega`: the laws of integers in which each product is one unknown
--     spread     for `simp`: a product of sums is written as a sum of sorted products
use Rattle.std.proofs.Common.{◌≡◌, ℕ, suc, ◌+◌, ◌*◌, ℤ, pos, negsuc, ◌+ℤ◌, ◌-ℤ◌, ◌*ℤ◌, neg_ℤ, refl, ap, sym, ◌∙◌, arith}
use Rattle.std.proofs.lemmas.Int.{ints}
use borrow.Author.Differences.{up, down, product_is, fits_out, same_out, Apart-out, lt_T, le_T, lt_not, le_not, lt-true, lt-false, le-true, le-false, true-lt, false-lt, true-le, false-le, not_negative_out, lt_out, le_out, fits_in, same_in, lt_in, le_in, below_in, at_most_in, not_negative_in, true_is_lt, false_is_lt, true_is_le, false_is_le, sum_is_lem, neg_is, quot_is, rem_is, abs_is, mag_is, back_is, small_is, read_fits, bits_is}

times : (k m n : ℕ) → m ≡ n → k * m ≡ k * n
times k m n e = ap (λ (x : ℕ). k * x) e

pub product_comm : (a b : ℤ) → a *ℤ b ≡ b *ℤ a
product_comm a b = omega (arith, ints)

pub product-sum : (a b c : ℤ) → a *ℤ (b +ℤ c) ≡ a *ℤ b +ℤ a *ℤ c
product-sum a b c =
    let s = sum_is_lem b c in
    omega (arith, ints, times (up a) _ _ s, times (down a) _ _ s)

pub sum-product : (a b c : ℤ) → (a +ℤ b) *ℤ c ≡ a *ℤ c +ℤ b *ℤ c
sum-product a b c =
    let s = sum_is_lem a b in
    omega (arith, ints, times (up c) _ _ s, times (down c) _ _ s)

pub product_assoc : (a b c : ℤ) → (a *ℤ b) *ℤ c ≡ a *ℤ (b *ℤ c)
product_assoc a b c =
    let p = product_is a b in
    let q = product_is b c in
    omega (arith, ints, times (up c) _ _ p.0, times (down c) _ _ p.0, times (up c) _ _ p.1, times (down c) _ _ p.1, times (up a) _ _ q.0, times (down a) _ _ q.0, times (up a) _ _ q.1, times (down a) _ _ q.1)

pub product_left_comm : (a b c : ℤ) → a *ℤ (b *ℤ c) ≡ b *ℤ (a *ℤ c)
product_left_comm a b c = sym (product_assoc a b c) ∙ ap (λ (x : ℤ). x *ℤ c) (product_comm a b) ∙ product_assoc b a c

pub negation-product : (a b : ℤ) → neg_ℤ a *ℤ b ≡ neg_ℤ (a *ℤ b)
negation-product a b =
    let n = neg_is a in
    omega (arith, ints, times (up b) _ _ n.0, times (down b) _ _ n.0, times (up b) _ _ n.1, times (down b) _ _ n.1)

pub product-negation : (a b : ℤ) → a *ℤ neg_ℤ b ≡ neg_ℤ (a *ℤ b)
product-negation a b = product_comm a (neg_ℤ b) ∙ negation-product b a ∙ ap neg_ℤ (product_comm b a)

pub product-difference : (a b c : ℤ) → a *ℤ (b -ℤ c) ≡ a *ℤ b -ℤ a *ℤ c
product-difference a b c = product-sum a b (neg_ℤ c) ∙ ap (λ (x : ℤ). a *ℤ b +ℤ x) (product-negation a c)

pub difference-product : (a b c : ℤ) → (a -ℤ b) *ℤ c ≡ a *ℤ c -ℤ b *ℤ c
difference-product a b c = sum-product a (neg_ℤ b) c ∙ ap (λ (x : ℤ). a *ℤ c +ℤ x) (negation-product b c)

pub zero-product : (a : ℤ) → pos 0 *ℤ a ≡ pos 0
zero-product a = omega (arith, ints)

pub product-zero : (a : ℤ) → a *ℤ pos 0 ≡ pos 0
product-zero a = omega (arith, ints)

pub one-product : (a : ℤ) → pos 1 *ℤ a ≡ a
one-product a = omega (arith, ints)

pub product-one : (a : ℤ) → a *ℤ pos 1 ≡ a
product-one a = omega (arith, ints)

pub minus_one-product : (a : ℤ) → negsuc 0 *ℤ a ≡ neg_ℤ a
minus_one-product a = omega (arith, ints)

pub negation-sum : (a b : ℤ) → neg_ℤ (a +ℤ b) ≡ neg_ℤ a +ℤ neg_ℤ b
negation-sum a b = omega (arith, ints)

pub negation-negation : (a : ℤ) → neg_ℤ (neg_ℤ a) ≡ a
negation-negation a = omega (arith, ints)

-- n times a as one unknown that `omega` reads at each numeral n
unfoldable pub scaled : ℕ → ℤ → ℤ
scaled n a = pos n *ℤ a

pub scaled_is : (n : ℕ) (a : ℤ) → up (scaled n a) + n * down a ≡ down (scaled n a) + n * up a
unfolding scaled
scaled_is n a = omega (arith, ints)

pub numeral-product : (n : ℕ) (a : ℤ) → pos n *ℤ a ≡ scaled n a
unfolding scaled
numeral-product n a = refl

pub product-numeral : (n : ℕ) (a : ℤ) → a *ℤ pos n ≡ scaled n a
unfolding scaled
product-numeral n a = product_comm a (pos n)

pub negative-product : (n : ℕ) (a : ℤ) → negsuc n *ℤ a ≡ neg_ℤ (scaled (suc n) a)
unfolding scaled
negative-product n a = negation-product (pos (suc n)) a

pub product-negative : (n : ℕ) (a : ℤ) → a *ℤ negsuc n ≡ neg_ℤ (scaled (suc n) a)
product-negative n a = product_comm a (negsuc n) ∙ negative-product n a

pub product-scaled : (n : ℕ) (a b : ℤ) → a *ℤ scaled n b ≡ scaled n (a *ℤ b)
unfolding scaled
product-scaled n a b = product_left_comm a (pos n) b

pub scaled-product : (n : ℕ) (a b : ℤ) → scaled n a *ℤ b ≡ scaled n (a *ℤ b)
unfolding scaled
scaled-product n a b = product_assoc (pos n) a b

-- for `omega`: the laws of integers in which each product is one unknown
pub ruleset sums = (fits_out, same_out, Apart-out, lt_T, le_T, lt_not, le_not, lt-true, lt-false, le-true, le-false, true-lt, false-lt, true-le, false-le, not_negative_out, lt_out, le_out, fits_in, same_in, lt_in, le_in, below_in, at_most_in, not_negative_in, true_is_lt, false_is_lt, true_is_le, false_is_le, sum_is_lem, neg_is, quot_is, rem_is, abs_is, mag_is, back_is, small_is, read_fits, bits_is, scaled_is)

-- for `simp`: a product of sums becomes a sum of sorted products
pub ruleset spread = (product-sum, sum-product, product-negation, negation-product, numeral-product, product-numeral, negative-product, product-negative, product-scaled, scaled-product, product_assoc, product_comm, product_left_comm)
