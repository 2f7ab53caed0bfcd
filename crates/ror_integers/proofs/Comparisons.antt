-- Comparisons of integers and of fractions by cross products.
use Rattle.std.proofs.Common.{◌≡◌, ◌↔◌, ℤ, pos, ◌+ℤ◌, ◌*ℤ◌, ◌≤ℤ◌, ◌<ℤ◌, refl, ap, ap₂, sym, ◌∙◌, arith, int_cmp, Less, Equal, Greater}
use Rattle.std.specs.Ordering.{ordering_reverse}
use Rattle.std.proofs.lemmas.Cmp.{int_ranked, by_ranked, int_cmp_total}
use Rattle.std.proofs.lemmas.Int.{ints}
use Rattle.ror_integers.specs.FractionOrder.{fraction_cmp}
use Rattle.ror_integers.proofs.Ring.{sums, zero-product, product-zero, product_comm, product-one, product_assoc}
use Rattle.ror_integers.proofs.Order.{mul_lt, mul_le, cancel_lt, le_of_lt, product_nonnegative}
use Rattle.ror_integers.proofs.Solver.{ring3, ring4, ◌⊕◌, ◌⊖◌, ◌⊗◌, num}

-- ---- integers
pub less_means : (a b : ℤ) → int_cmp a b ≡ Less → a <ℤ b
less_means a b e = by_ranked (a <ℤ b) (a ≡ b) (b <ℤ a) (int_cmp a b) (int_ranked a b (int_cmp a b) refl) (λ f h. h) (λ f h. absurd (cc)) (λ f h. absurd (cc))

pub equal_means : (a b : ℤ) → int_cmp a b ≡ Equal → a ≡ b
equal_means a b e = by_ranked (a <ℤ b) (a ≡ b) (b <ℤ a) (int_cmp a b) (int_ranked a b (int_cmp a b) refl) (λ f h. absurd (cc)) (λ f h. h) (λ f h. absurd (cc))

pub greater_means : (a b : ℤ) → int_cmp a b ≡ Greater → b <ℤ a
greater_means a b e = by_ranked (a <ℤ b) (a ≡ b) (b <ℤ a) (int_cmp a b) (int_ranked a b (int_cmp a b) refl) (λ f h. absurd (cc)) (λ f h. absurd (cc)) (λ f h. h)

pub is_less : (a b : ℤ) → a <ℤ b → int_cmp a b ≡ Less
is_less a b l = by_ranked (a <ℤ b) (a ≡ b) (b <ℤ a) (int_cmp a b) (int_ranked a b (int_cmp a b) refl) (λ f h. f) (λ f h. absurd (omega (arith, ints))) (λ f h. absurd (omega (arith, ints)))

pub is_greater : (a b : ℤ) → b <ℤ a → int_cmp a b ≡ Greater
is_greater a b l = by_ranked (a <ℤ b) (a ≡ b) (b <ℤ a) (int_cmp a b) (int_ranked a b (int_cmp a b) refl) (λ f h. absurd (omega (arith, ints))) (λ f h. absurd (omega (arith, ints))) (λ f h. f)

pub is_equal : (a b : ℤ) → a ≡ b → int_cmp a b ≡ Equal
is_equal a b l = by_ranked (a <ℤ b) (a ≡ b) (b <ℤ a) (int_cmp a b) (int_ranked a b (int_cmp a b) refl) (λ f h. absurd (omega (arith, ints))) (λ f h. f) (λ f h. absurd (omega (arith, ints)))

-- two pairs that are in one order in each case compare alike
pub same_cmp : (a b c d : ℤ) → (a <ℤ b → c <ℤ d) → (a ≡ b → c ≡ d) → (b <ℤ a → d <ℤ c) → int_cmp a b ≡ int_cmp c d
same_cmp a b c d f g h = by_ranked (a <ℤ b) (a ≡ b) (b <ℤ a) (int_cmp a b) (int_ranked a b (int_cmp a b) refl)
    (λ e l. e ∙ sym (is_less c d (f l))) (λ e l. e ∙ sym (is_equal c d (g l))) (λ e l. e ∙ sym (is_greater c d (h l)))

pub int_cmp-scaled : (k a b : ℤ) → pos 0 <ℤ k → int_cmp (k *ℤ a) (k *ℤ b) ≡ int_cmp a b
int_cmp-scaled k a b h = sym (same_cmp a b (k *ℤ a) (k *ℤ b) (mul_lt k a b h) (λ e. ap (λ (x : ℤ). k *ℤ x) e) (mul_lt k b a h))

pub int_cmp-shifted : (k a b : ℤ) → int_cmp (k +ℤ a) (k +ℤ b) ≡ int_cmp a b
int_cmp-shifted k a b = sym (same_cmp a b (k +ℤ a) (k +ℤ b) (λ l. omega (arith, sums)) (λ e. omega (arith, sums)) (λ l. omega (arith, sums)))

pub int_cmp_reversed : (a b : ℤ) → int_cmp a b ≡ ordering_reverse (int_cmp b a)
int_cmp_reversed a b = int_cmp_total.antisymm a b

-- ---- fractions
pub fraction_cmp_reflexive : (p q : ℤ) → fraction_cmp p q p q ≡ Equal
fraction_cmp_reflexive p q = is_equal (p *ℤ q) (p *ℤ q) refl

pub fraction_cmp_reversed : (p q r s : ℤ) → fraction_cmp p q r s ≡ ordering_reverse (fraction_cmp r s p q)
fraction_cmp_reversed p q r s = int_cmp_reversed (p *ℤ s) (r *ℤ q)

pub fraction_cmp_less : (p q r s : ℤ) → (fraction_cmp p q r s ≡ Less) ↔ ((p *ℤ s) <ℤ (r *ℤ q))
fraction_cmp_less p q r s = (less_means (p *ℤ s) (r *ℤ q), is_less (p *ℤ s) (r *ℤ q))

pub fraction_cmp_equal : (p q r s : ℤ) → (fraction_cmp p q r s ≡ Equal) ↔ (p *ℤ s ≡ r *ℤ q)
fraction_cmp_equal p q r s = (equal_means (p *ℤ s) (r *ℤ q), is_equal (p *ℤ s) (r *ℤ q))

pub fraction_cmp_greater : (p q r s : ℤ) → (fraction_cmp p q r s ≡ Greater) ↔ ((r *ℤ q) <ℤ (p *ℤ s))
fraction_cmp_greater p q r s = (greater_means (p *ℤ s) (r *ℤ q), is_greater (p *ℤ s) (r *ℤ q))

pub fraction_less_transitive : (p q r s t u : ℤ) → pos 0 <ℤ q → pos 0 <ℤ s → pos 0 <ℤ u → (p *ℤ s) <ℤ (r *ℤ q) → (r *ℤ u) <ℤ (t *ℤ s) → (p *ℤ u) <ℤ (t *ℤ q)
fraction_less_transitive p q r s t u hq hs hu a b =
    let c = mul_lt u (p *ℤ s) (r *ℤ q) hu a in
    let d = mul_lt q (r *ℤ u) (t *ℤ s) hq b in
    cancel_lt s (p *ℤ u) (t *ℤ q) (le_of_lt (pos 0) s hs)
    (omega (
      arith,
      sums,
      ring3 (λ x y z. x ⊗ (y ⊗ z)) (λ x y z. z ⊗ (y ⊗ x)) refl s p u,
      ring3 (λ x y z. x ⊗ (y ⊗ z)) (λ x y z. z ⊗ (y ⊗ x)) refl u r q,
      ring3 (λ x y z. x ⊗ (y ⊗ z)) (λ x y z. z ⊗ (y ⊗ x)) refl q t s,
    ))

pub fraction_cmp_transitive : (p q r s t u : ℤ) → pos 0 <ℤ q → pos 0 <ℤ s → pos 0 <ℤ u → fraction_cmp p q r s ≡ Less → fraction_cmp r s t u ≡ Less → fraction_cmp p q t u ≡ Less
fraction_cmp_transitive p q r s t u hq hs hu a b =
    is_less (p *ℤ u) (t *ℤ q) (fraction_less_transitive p q r s t u hq hs hu (less_means (p *ℤ s) (r *ℤ q) a) (less_means (r *ℤ u) (t *ℤ s) b))

pub fraction_cmp_congruent : (p q r s t u : ℤ) → pos 0 <ℤ q → pos 0 <ℤ s → fraction_cmp p q r s ≡ Equal → fraction_cmp p q t u ≡ fraction_cmp r s t u
fraction_cmp_congruent p q r s t u hq hs e =
    let f = equal_means (p *ℤ s) (r *ℤ q) e in
    sym (int_cmp-scaled s (p *ℤ u) (t *ℤ q) hs)
    ∙ ap₂ int_cmp
    (ring3 (λ x y z. x ⊗ (y ⊗ z)) (λ x y z. (y ⊗ x) ⊗ z) refl s p u ∙ ap (λ (x : ℤ). x *ℤ u) f ∙ ring3 (λ x y z. (x ⊗ y) ⊗ z) (λ x y z. y ⊗ (x ⊗ z)) refl r q u)
    (ring3 (λ x y z. x ⊗ (y ⊗ z)) (λ x y z. z ⊗ (y ⊗ x)) refl s t q)
    ∙ int_cmp-scaled q (r *ℤ u) (t *ℤ s) hq

pub fraction_cmp_of_scaled : (k p q r s : ℤ) → pos 0 <ℤ k → fraction_cmp (k *ℤ p) (k *ℤ q) r s ≡ fraction_cmp p q r s
fraction_cmp_of_scaled k p q r s h =
    ap₂ int_cmp (product_assoc k p s) (ring3 (λ x y z. x ⊗ (y ⊗ z)) (λ x y z. y ⊗ (x ⊗ z)) refl r k q) ∙ int_cmp-scaled k (p *ℤ s) (r *ℤ q) h

pub fraction_cmp_of_integers : (p r : ℤ) → fraction_cmp p (pos 1) r (pos 1) ≡ int_cmp p r
fraction_cmp_of_integers p r = ap₂ int_cmp (product-one p) (product-one r)

pub fraction_cmp_of_inverses : (p q r s : ℤ) → fraction_cmp p q r s ≡ fraction_cmp s r q p
fraction_cmp_of_inverses p q r s = ap₂ int_cmp (product_comm p s) (product_comm r q)

-- ---- by whole parts and rests
pub fraction_cmp_by_whole_parts : (q s m n c d : ℤ) → c <ℤ q → pos 0 ≤ℤ c → pos 0 ≤ℤ d → pos 0 <ℤ s → m <ℤ n → fraction_cmp (m *ℤ q +ℤ c) q (n *ℤ s +ℤ d) s ≡ Less
fraction_cmp_by_whole_parts q s m n c d hq hc hd hs h =
    let k : (m +ℤ pos 1) ≤ℤ n = omega (arith, sums) in
    let hqs : pos 0 ≤ℤ (q *ℤ s) = product_nonnegative q s (omega (arith, sums)) (le_of_lt (pos 0) s hs) in
    let a = mul_le (q *ℤ s) (m +ℤ pos 1) n hqs k in
    let b = mul_lt s c q hs hq in
    let e = product_nonnegative d q hd (omega (arith, sums)) in
    is_less ((m *ℤ q +ℤ c) *ℤ s) ((n *ℤ s +ℤ d) *ℤ q)
    (omega (
      arith,
      sums,
      ring4 (λ m q c s. (m ⊗ q ⊕ c) ⊗ s) (λ m q c s. q ⊗ s ⊗ (m ⊕ num (pos 1)) ⊖ s ⊗ q ⊕ s ⊗ c) refl m q c s,
      ring4 (λ n s d q. (n ⊗ s ⊕ d) ⊗ q) (λ n s d q. q ⊗ s ⊗ n ⊕ d ⊗ q) refl n s d q,
    ))

pub fraction_cmp_by_rests : (q s m c d : ℤ) → fraction_cmp (m *ℤ q +ℤ c) q (m *ℤ s +ℤ d) s ≡ fraction_cmp c q d s
fraction_cmp_by_rests q s m c d =
    ap₂ int_cmp
    (ring4 (λ m q c s. (m ⊗ q ⊕ c) ⊗ s) (λ m q c s. m ⊗ q ⊗ s ⊕ c ⊗ s) refl m q c s)
    (ring4 (λ m s d q. (m ⊗ s ⊕ d) ⊗ q) (λ m s d q. m ⊗ q ⊗ s ⊕ d ⊗ q) refl m s d q)
    ∙ int_cmp-shifted (m *ℤ q *ℤ s) (c *ℤ s) (d *ℤ q)

pub fraction_cmp_by_whole_parts_greater : (q s m n c d : ℤ) → d <ℤ s → pos 0 ≤ℤ c → pos 0 ≤ℤ d → pos 0 <ℤ q → n <ℤ m → fraction_cmp (m *ℤ q +ℤ c) q (n *ℤ s +ℤ d) s ≡ Greater
fraction_cmp_by_whole_parts_greater q s m n c d hs hc hd hq h =
    fraction_cmp_reversed (m *ℤ q +ℤ c) q (n *ℤ s +ℤ d) s ∙ ap ordering_reverse (fraction_cmp_by_whole_parts s q n m d c hs hd hc hq h)

-- a fraction whose numerator is 0
pub fraction_cmp_zero_left : (q d s : ℤ) → pos 0 <ℤ q → fraction_cmp (pos 0) q d s ≡ int_cmp (pos 0) d
fraction_cmp_zero_left q d s h = ap₂ int_cmp (zero-product s ∙ sym (product-zero q)) (product_comm d q) ∙ int_cmp-scaled q (pos 0) d h

pub fraction_cmp_zero_right : (c q s : ℤ) → pos 0 <ℤ s → fraction_cmp c q (pos 0) s ≡ int_cmp c (pos 0)
fraction_cmp_zero_right c q s h = ap₂ int_cmp (product_comm c s) (zero-product q ∙ sym (product-zero s)) ∙ int_cmp-scaled s c (pos 0) h
