-- The order of integers and products: monotone, cancelled, and when a product is zero.
use Rattle.std.proofs.Common.{◌≡◌, ◌≢◌, ◌⊎◌, inl, inr, zero, suc, ◌*◌, ◌<◌, ℤ, pos, negsuc, ◌+ℤ◌, ◌-ℤ◌, ◌*ℤ◌, ◌≤ℤ◌, ◌<ℤ◌, unsigned_abs, refl, ap, sym, ◌∙◌, arith, mul-pos}
use Rattle.std.proofs.lemmas.Int.{ints, by_lt_z, unsigned_abs-mul}
use Rattle.ror_integers.proofs.Ring.{sums, product_comm, product-zero, product-difference, product-sum, product-one, negation-product}

pub product_nonnegative : (a b : ℤ) → pos 0 ≤ℤ a → pos 0 ≤ℤ b → pos 0 ≤ℤ (a *ℤ b)
product_nonnegative (pos a) (pos b) h k = omega (arith, ints)
product_nonnegative (pos a) (negsuc b) h k = absurd k.le
product_nonnegative (negsuc a) b h k = absurd h.le

pub product_positive : (a b : ℤ) → pos 0 <ℤ a → pos 0 <ℤ b → pos 0 <ℤ (a *ℤ b)
product_positive (pos a) (pos b) h k = let p : 0 < a = omega (arith, ints) in let q : 0 < b = omega (arith, ints) in let r = mul-pos p q in omega (arith, ints)
product_positive (pos a) (negsuc b) h k = absurd k.lt
product_positive (negsuc a) b h k = absurd h.lt

pub mul_le : (k a b : ℤ) → pos 0 ≤ℤ k → a ≤ℤ b → (k *ℤ a) ≤ℤ (k *ℤ b)
mul_le k a b h p =
    let q : pos 0 ≤ℤ (b -ℤ a) = omega (arith, ints) in
    omega (arith, sums, product_nonnegative k (b -ℤ a) h q, product-difference k b a)

pub mul_lt : (k a b : ℤ) → pos 0 <ℤ k → a <ℤ b → (k *ℤ a) <ℤ (k *ℤ b)
mul_lt k a b h p =
    let q : pos 0 <ℤ (b -ℤ a) = omega (arith, ints) in
    omega (arith, sums, product_positive k (b -ℤ a) h q, product-difference k b a)

-- both factors may grow
pub mul_le_mul : (a b c d : ℤ) → pos 0 ≤ℤ a → a ≤ℤ b → pos 0 ≤ℤ c → c ≤ℤ d → (a *ℤ c) ≤ℤ (b *ℤ d)
mul_le_mul a b c d h p k q =
    let r : pos 0 ≤ℤ b = omega (arith, sums) in
    omega (arith, sums, mul_le b c d r q, mul_le c a b k p, product_comm c a, product_comm c b)

pub cancel_lt : (k a b : ℤ) → pos 0 ≤ℤ k → (k *ℤ a) <ℤ (k *ℤ b) → a <ℤ b
cancel_lt k a b h p = by_lt_z a b (λ l. l) (λ l. let q = mul_le k b a h l in absurd (omega (arith, sums)))

pub cancel_le : (k a b : ℤ) → pos 0 <ℤ k → (k *ℤ a) ≤ℤ (k *ℤ b) → a ≤ℤ b
cancel_le k a b h p = by_lt_z b a (λ l. let q = mul_lt k b a h l in absurd (omega (arith, sums))) (λ l. l)

pub cancel : (k a b : ℤ) → pos 0 <ℤ k → k *ℤ a ≡ k *ℤ b → a ≡ b
cancel k a b h e =
    let p : a ≤ℤ b = cancel_le k a b h (omega (arith, sums)) in
    let q : b ≤ℤ a = cancel_le k b a h (omega (arith, sums)) in
    omega (arith, sums)

-- a product of a positive number has the sign of the other factor
pub positive_factor : (k a : ℤ) → pos 0 <ℤ k → pos 0 <ℤ (k *ℤ a) → pos 0 <ℤ a
positive_factor k a h p = cancel_lt k (pos 0) a (omega (arith, sums)) (omega (arith, sums, product-zero k))

pub nonnegative_factor : (k a : ℤ) → pos 0 <ℤ k → pos 0 ≤ℤ (k *ℤ a) → pos 0 ≤ℤ a
nonnegative_factor k a h p = cancel_le k (pos 0) a h (omega (arith, sums, product-zero k))

pub zero_factor : (a b : ℤ) → a *ℤ b ≡ pos 0 → (a ≡ pos 0) ⊎ (b ≡ pos 0)
zero_factor (pos zero) b e = inl refl
zero_factor (pos (suc a)) b e = inr (cancel (pos (suc a)) b (pos 0) (omega (arith, ints)) (e ∙ sym (product-zero (pos (suc a)))))
zero_factor (negsuc a) (pos zero) e = inr refl
zero_factor (negsuc a) (pos (suc b)) e = absurd (omega (arith, ints))
zero_factor (negsuc a) (negsuc b) e = absurd (omega (arith, ints))

pub square_nonnegative : (a : ℤ) → pos 0 ≤ℤ (a *ℤ a)
square_nonnegative (pos a) = omega (arith, ints)
square_nonnegative (negsuc a) = omega (arith, ints)

pub absolute-product : (a b : ℤ) → unsigned_abs (a *ℤ b) ≡ unsigned_abs a * unsigned_abs b
absolute-product a b = unsigned_abs-mul a b

pub le_cases : {P : Type 0} (a b : ℤ) → (a ≤ℤ b → P) → (b <ℤ a → P) → P
le_cases a b f g = by_lt_z b a g f

pub le_of_lt : (a b : ℤ) → a <ℤ b → a ≤ℤ b
le_of_lt a b h = omega (arith, sums)

pub cancel_nonzero : (k a b : ℤ) → k ≢ pos 0 → k *ℤ a ≡ k *ℤ b → a ≡ b
cancel_nonzero (pos zero) a b h e = absurd (h refl)
cancel_nonzero (pos (suc k)) a b h e = cancel (pos (suc k)) a b (omega (arith, ints)) e
cancel_nonzero (negsuc k) a b h e = cancel (pos (suc k)) a b (omega (arith, ints)) (omega (arith, sums, negation-product (pos (suc k)) a, negation-product (pos (suc k)) b))

-- rounded down, a quotient and its rest are determined
pub same_quotients : (b q r m s : ℤ) → pos 0 ≤ℤ r → r <ℤ b → pos 0 ≤ℤ s → s <ℤ b → q *ℤ b +ℤ r ≡ m *ℤ b +ℤ s → (q ≡ m) × (r ≡ s)
same_quotients b q r m s hr lr hs ls e =
    let p : q ≤ℤ m = not_above q r m s hr lr hs ls e in
    let n : m ≤ℤ q = not_above m s q r hs ls hr lr (sym e) in
    let f : q ≡ m = omega (arith, sums) in
    let g = ap (λ (x : ℤ). x *ℤ b) f in
    (f, omega (arith, sums))
  where
    not_above : (q r m s : ℤ) → pos 0 ≤ℤ r → r <ℤ b → pos 0 ≤ℤ s → s <ℤ b → q *ℤ b +ℤ r ≡ m *ℤ b +ℤ s → q ≤ℤ m
    not_above q r m s hr lr hs ls e = le_cases q m (λ l. l) (λ l. let k : (m +ℤ pos 1) ≤ℤ q = omega (arith, sums) in let h : pos 0 ≤ℤ b = omega (arith, sums) in let j = mul_le b (m +ℤ pos 1) q h k in absurd (omega (arith, sums, product-sum b m (pos 1), product-one b, product_comm b q, product_comm b m)))
