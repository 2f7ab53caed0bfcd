-- Sums, products and reciprocals are in lowest terms where they are made by their numbers; the laws of the rationals.
use Rattle.std.proofs.Common.{◌≡◌, ◌≢◌, ℕ, zero, suc, ◌<◌, ℤ, pos, negsuc, ◌+ℤ◌, ◌*ℤ◌, neg_ℤ, ◌<ℤ◌, unsigned_abs, refl, ap, ap₂, sym, ◌∙◌, subst, arith}
use Prim.Native.Nat.{◌∣◌}
use Rattle.std.proofs.Math.Nat.{dvd_trans}
use Rattle.std.proofs.lemmas.Int.{ints, unsigned_abs-mul}
use Rattle.std.specs.declared.cmp.Ordering.TheVariants.{Equal}
use Rattle.ror_integers.specs.Gcd.{gcd, int_gcd, exact_quotient}
use Rattle.ror_integers.specs.LowestTerms.{IsLowestTerms, signed_by}
use Rattle.ror_integers.proofs.Ring.{sums, product_comm, product-zero, negation-product, product-negation}
use Rattle.ror_integers.proofs.Order.{cancel, cancel_nonzero, product_positive}
use Rattle.ror_integers.proofs.Gcd.{gcd-dvd_left, gcd-dvd_right, gcd_comm, coprime_product, gcd_positive_right, exact_quotient_times, int_gcd_of_quotients}
use Rattle.ror_integers.proofs.LowestTerms.{exact_quotient_positive, lowest_terms_exist, lowest_terms_are, same_from_same_value}
use Rattle.ror_integers.proofs.Comparisons.{fraction_cmp_reversed, fraction_cmp_transitive, fraction_cmp_equal, fraction_cmp_reflexive}
use Rattle.ror_integers.proofs.Solver.{ring5, ring6, ◌⊕◌, ◌⊖◌, ◌⊗◌, negated as minus}
use Rattle.ror_fraction.specs.Laws.{RationalLaws, RationalOrder}
use Rattle.ror_fraction.specs.Ratios.{Ratio, IsLowest, lowest, sum_of, negated, product_of, reciprocal, ratio_cmp}
use Rattle.ror_fraction.proofs.Coprime.{coprime_divisor, coprime_divisors, coprime_sum, dvd-absolute_product_left}

-- ---- lowest terms
pub lowest_is : (n d p q : ℤ) → d ≢ pos 0 → IsLowestTerms n d p q → record { numerator = p; denominator = q } ≡ lowest n d
lowest_is n d p q h terms =
    let e = lowest_terms_are n d p q h terms in
    ap₂ (λ (a b : ℤ). let r : Ratio = record { numerator = a; denominator = b } in r) e.0 e.1

pub is_lowest : (n d : ℤ) → d ≢ pos 0 → IsLowest (lowest n d)
is_lowest n d h = let terms = lowest_terms_exist n d h in record { positive = terms.positive; coprime = terms.coprime }

pub nonzero : (d : ℤ) → pos 0 <ℤ d → d ≢ pos 0
nonzero d h e = absurd (omega (arith, ints))

absolute_positive : (d : ℤ) → pos 0 <ℤ d → 0 < unsigned_abs d
absolute_positive d h = omega (arith, ints)

pos_positive : (n : ℕ) → 0 < n → pos 0 <ℤ pos n
pos_positive n h = omega (arith, ints)

quotient_divides : (x : ℤ) (g : ℕ) → g ∣ unsigned_abs x → unsigned_abs (exact_quotient x g) ∣ unsigned_abs x
quotient_divides x g h = subst (λ (z : ℤ). unsigned_abs (exact_quotient x g) ∣ unsigned_abs z) (exact_quotient_times x g h) (dvd-absolute_product_left (exact_quotient x g) (pos g))

-- ---- sums
pub sum_is_lowest : (a b c d : ℤ) → pos 0 <ℤ b → pos 0 <ℤ d → int_gcd a b ≡ 1 → int_gcd c d ≡ 1 → (let g = int_gcd b d in let s = a *ℤ exact_quotient d g +ℤ c *ℤ exact_quotient b g in let h = int_gcd s (pos g) in IsLowestTerms (a *ℤ d +ℤ c *ℤ b) (b *ℤ d) (exact_quotient s h) (exact_quotient b g *ℤ exact_quotient d h))
sum_is_lowest a b c d hb hd ab cd = record {
  positive = product_positive b₁ d₂ (exact_quotient_positive b g gp (gcd-dvd_left (unsigned_abs b) (unsigned_abs d)) hb) (exact_quotient_positive d h hp h-d hd);
  coprime = coprime;
  same_value = sym (ap (λ (x : ℤ). x *ℤ (b₁ *ℤ d₂)) numerator_is ∙ ring5 (λ s h g b d. ((s ⊗ h) ⊗ g) ⊗ (b ⊗ d)) (λ s h g b d. s ⊗ ((b ⊗ g) ⊗ (d ⊗ h))) refl s₁ (pos h) (pos g) b₁ d₂ ∙ ap₂ (λ (x y : ℤ). s₁ *ℤ (x *ℤ y)) bg dh);
}
  where
    g : ℕ
    g = int_gcd b d

    b₁ : ℤ
    b₁ = exact_quotient b g

    d₁ : ℤ
    d₁ = exact_quotient d g

    s : ℤ
    s = a *ℤ d₁ +ℤ c *ℤ b₁

    h : ℕ
    h = int_gcd s (pos g)

    s₁ : ℤ
    s₁ = exact_quotient s h

    g₁ : ℤ
    g₁ = exact_quotient (pos g) h

    d₂ : ℤ
    d₂ = exact_quotient d h

    gp : 0 < g
    gp = gcd_positive_right (unsigned_abs b) (unsigned_abs d) (absolute_positive d hd)

    hp : 0 < h
    hp = gcd_positive_right (unsigned_abs s) g gp

    h-d : h ∣ unsigned_abs d
    h-d = dvd_trans h (gcd-dvd_right (unsigned_abs s) g) (gcd-dvd_right (unsigned_abs b) (unsigned_abs d))

    bg : b₁ *ℤ pos g ≡ b
    bg = exact_quotient_times b g (gcd-dvd_left (unsigned_abs b) (unsigned_abs d))

    dg : d₁ *ℤ pos g ≡ d
    dg = exact_quotient_times d g (gcd-dvd_right (unsigned_abs b) (unsigned_abs d))

    sh : s₁ *ℤ pos h ≡ s
    sh = exact_quotient_times s h (gcd-dvd_left (unsigned_abs s) g)

    gh : g₁ *ℤ pos h ≡ pos g
    gh = exact_quotient_times (pos g) h (gcd-dvd_right (unsigned_abs s) g)

    dh : d₂ *ℤ pos h ≡ d
    dh = exact_quotient_times d h h-d

    numerator_is : a *ℤ d +ℤ c *ℤ b ≡ (s₁ *ℤ pos h) *ℤ pos g
    numerator_is =
        ap₂ (λ (x y : ℤ). a *ℤ x +ℤ c *ℤ y) (sym dg) (sym bg)
        ∙ ring5 (λ a d c b g. a ⊗ (d ⊗ g) ⊕ c ⊗ (b ⊗ g)) (λ a d c b g. (a ⊗ d ⊕ c ⊗ b) ⊗ g) refl a d₁ c b₁ (pos g)
        ∙ ap (λ (x : ℤ). x *ℤ pos g) (sym sh)

    d₂-is : d₂ ≡ d₁ *ℤ g₁
    d₂-is = cancel (pos h) d₂ (d₁ *ℤ g₁) (pos_positive h hp)
        (product_comm (pos h) d₂ ∙ dh ∙ sym dg ∙ ap (λ (x : ℤ). d₁ *ℤ x) (sym gh) ∙ ring5 (λ d g h u v. d ⊗ (g ⊗ h)) (λ d g h u v. h ⊗ (d ⊗ g)) refl d₁ g₁ (pos h) (pos h) (pos h))

    b₁-d₁ : int_gcd b₁ d₁ ≡ 1
    b₁-d₁ = int_gcd_of_quotients b d gp

    s-b₁ : int_gcd s b₁ ≡ 1
    s-b₁ = coprime_sum a d₁ c b₁
        (coprime_divisor (unsigned_abs a) (unsigned_abs b) (unsigned_abs b₁) ab (quotient_divides b g (gcd-dvd_left (unsigned_abs b) (unsigned_abs d))))
        (gcd_comm (unsigned_abs d₁) (unsigned_abs b₁) ∙ b₁-d₁)

    sum_comm : s ≡ c *ℤ b₁ +ℤ a *ℤ d₁
    sum_comm = omega (arith, sums)

    s-d₁ : int_gcd s d₁ ≡ 1
    s-d₁ = ap (λ (x : ℤ). int_gcd x d₁) sum_comm ∙ coprime_sum c b₁ a d₁
        (coprime_divisor (unsigned_abs c) (unsigned_abs d) (unsigned_abs d₁) cd (quotient_divides d g (gcd-dvd_right (unsigned_abs b) (unsigned_abs d))))
        b₁-d₁

    s₁-s : unsigned_abs s₁ ∣ unsigned_abs s
    s₁-s = quotient_divides s h (gcd-dvd_left (unsigned_abs s) g)

    with_b₁ : int_gcd s₁ b₁ ≡ 1
    with_b₁ = gcd_comm (unsigned_abs s₁) (unsigned_abs b₁) ∙ coprime_divisor (unsigned_abs b₁) (unsigned_abs s) (unsigned_abs s₁) (gcd_comm (unsigned_abs b₁) (unsigned_abs s) ∙ s-b₁) s₁-s

    with_d₁ : int_gcd s₁ d₁ ≡ 1
    with_d₁ = gcd_comm (unsigned_abs s₁) (unsigned_abs d₁) ∙ coprime_divisor (unsigned_abs d₁) (unsigned_abs s) (unsigned_abs s₁) (gcd_comm (unsigned_abs d₁) (unsigned_abs s) ∙ s-d₁) s₁-s

    with_g₁ : int_gcd s₁ g₁ ≡ 1
    with_g₁ = int_gcd_of_quotients s (pos g) hp

    with_d₂ : int_gcd s₁ d₂ ≡ 1
    with_d₂ = ap (λ (x : ℤ). int_gcd s₁ x) d₂-is ∙ ap (gcd (unsigned_abs s₁)) (unsigned_abs-mul d₁ g₁) ∙ coprime_product (unsigned_abs s₁) (unsigned_abs d₁) (unsigned_abs g₁) with_d₁ with_g₁

    coprime : int_gcd s₁ (b₁ *ℤ d₂) ≡ 1
    coprime = ap (gcd (unsigned_abs s₁)) (unsigned_abs-mul b₁ d₂) ∙ coprime_product (unsigned_abs s₁) (unsigned_abs b₁) (unsigned_abs d₂) with_b₁ with_d₂

-- ---- products
pub product_is_lowest : (a b c d : ℤ) → pos 0 <ℤ b → pos 0 <ℤ d → int_gcd a b ≡ 1 → int_gcd c d ≡ 1 → (let g = int_gcd a d in let h = int_gcd c b in IsLowestTerms (a *ℤ c) (b *ℤ d) (exact_quotient a g *ℤ exact_quotient c h) (exact_quotient b h *ℤ exact_quotient d g))
product_is_lowest a b c d hb hd ab cd = record {
  positive = product_positive b₁ d₁ (exact_quotient_positive b h hp (gcd-dvd_right (unsigned_abs c) (unsigned_abs b)) hb) (exact_quotient_positive d g gp (gcd-dvd_right (unsigned_abs a) (unsigned_abs d)) hd);
  coprime = coprime;
  same_value = ap₂ (λ (x y : ℤ). (a₁ *ℤ c₁) *ℤ (x *ℤ y)) (sym bh) (sym dg) ∙ ring6 (λ a c b h d g. (a ⊗ c) ⊗ ((b ⊗ h) ⊗ (d ⊗ g))) (λ a c b h d g. ((a ⊗ g) ⊗ (c ⊗ h)) ⊗ (b ⊗ d)) refl a₁ c₁ b₁ (pos h) d₁ (pos g) ∙ ap₂ (λ (x y : ℤ). (x *ℤ y) *ℤ (b₁ *ℤ d₁)) ag ch;
}
  where
    g : ℕ
    g = int_gcd a d

    h : ℕ
    h = int_gcd c b

    a₁ : ℤ
    a₁ = exact_quotient a g

    b₁ : ℤ
    b₁ = exact_quotient b h

    c₁ : ℤ
    c₁ = exact_quotient c h

    d₁ : ℤ
    d₁ = exact_quotient d g

    gp : 0 < g
    gp = gcd_positive_right (unsigned_abs a) (unsigned_abs d) (absolute_positive d hd)

    hp : 0 < h
    hp = gcd_positive_right (unsigned_abs c) (unsigned_abs b) (absolute_positive b hb)

    ag : a₁ *ℤ pos g ≡ a
    ag = exact_quotient_times a g (gcd-dvd_left (unsigned_abs a) (unsigned_abs d))

    dg : d₁ *ℤ pos g ≡ d
    dg = exact_quotient_times d g (gcd-dvd_right (unsigned_abs a) (unsigned_abs d))

    ch : c₁ *ℤ pos h ≡ c
    ch = exact_quotient_times c h (gcd-dvd_left (unsigned_abs c) (unsigned_abs b))

    bh : b₁ *ℤ pos h ≡ b
    bh = exact_quotient_times b h (gcd-dvd_right (unsigned_abs c) (unsigned_abs b))

    b₁-a₁ : int_gcd b₁ a₁ ≡ 1
    b₁-a₁ = gcd_comm (unsigned_abs b₁) (unsigned_abs a₁) ∙ coprime_divisors (unsigned_abs a) (unsigned_abs b) (unsigned_abs a₁) (unsigned_abs b₁) ab (quotient_divides a g (gcd-dvd_left (unsigned_abs a) (unsigned_abs d))) (quotient_divides b h (gcd-dvd_right (unsigned_abs c) (unsigned_abs b)))

    b₁-c₁ : int_gcd b₁ c₁ ≡ 1
    b₁-c₁ = gcd_comm (unsigned_abs b₁) (unsigned_abs c₁) ∙ int_gcd_of_quotients c b hp

    d₁-a₁ : int_gcd d₁ a₁ ≡ 1
    d₁-a₁ = gcd_comm (unsigned_abs d₁) (unsigned_abs a₁) ∙ int_gcd_of_quotients a d gp

    d₁-c₁ : int_gcd d₁ c₁ ≡ 1
    d₁-c₁ = gcd_comm (unsigned_abs d₁) (unsigned_abs c₁) ∙ coprime_divisors (unsigned_abs c) (unsigned_abs d) (unsigned_abs c₁) (unsigned_abs d₁) cd (quotient_divides c h (gcd-dvd_left (unsigned_abs c) (unsigned_abs b))) (quotient_divides d g (gcd-dvd_right (unsigned_abs a) (unsigned_abs d)))

    with_product : (x : ℤ) → int_gcd x a₁ ≡ 1 → int_gcd x c₁ ≡ 1 → int_gcd (a₁ *ℤ c₁) x ≡ 1
    with_product x e f = gcd_comm (unsigned_abs (a₁ *ℤ c₁)) (unsigned_abs x) ∙ ap (gcd (unsigned_abs x)) (unsigned_abs-mul a₁ c₁) ∙ coprime_product (unsigned_abs x) (unsigned_abs a₁) (unsigned_abs c₁) e f

    coprime : int_gcd (a₁ *ℤ c₁) (b₁ *ℤ d₁) ≡ 1
    coprime = ap (gcd (unsigned_abs (a₁ *ℤ c₁))) (unsigned_abs-mul b₁ d₁) ∙ coprime_product (unsigned_abs (a₁ *ℤ c₁)) (unsigned_abs b₁) (unsigned_abs d₁) (with_product b₁ b₁-a₁ b₁-c₁) (with_product d₁ d₁-a₁ d₁-c₁)

-- ---- reciprocals
pub reciprocal_is_lowest : (c d : ℤ) → pos 0 <ℤ d → int_gcd c d ≡ 1 → c ≢ pos 0 → IsLowestTerms d c (signed_by c d) (signed_by c c)
reciprocal_is_lowest (pos zero) d hd cd h = absurd (h refl)
reciprocal_is_lowest (pos (suc n)) d hd cd h = record {
  positive = omega (arith, ints);
  coprime = gcd_comm (unsigned_abs d) (suc n) ∙ cd;
  same_value = refl;
}
reciprocal_is_lowest (negsuc n) d hd cd h = record {
  positive = omega (arith, ints);
  coprime = (let e : unsigned_abs (neg_ℤ d) ≡ unsigned_abs d = omega (arith, ints) in ap (λ (m : ℕ). gcd m (suc n)) e ∙ gcd_comm (unsigned_abs d) (suc n) ∙ cd);
  same_value = negation-product d (negsuc n) ∙ sym (product-negation d (negsuc n));
}

-- ---- the operations on fractions in lowest terms
pub product_nonzero : (x y : ℤ) → pos 0 <ℤ x → pos 0 <ℤ y → x *ℤ y ≢ pos 0
product_nonzero x y h k = nonzero (x *ℤ y) (product_positive x y h k)

sum_terms : (x y : Ratio) → IsLowest x → IsLowest y → IsLowestTerms (x.numerator *ℤ y.denominator +ℤ y.numerator *ℤ x.denominator) (x.denominator *ℤ y.denominator) (sum_of x y).numerator (sum_of x y).denominator
sum_terms x y lx ly = lowest_terms_exist _ _ (product_nonzero x.denominator y.denominator lx.positive ly.positive)

product_terms : (x y : Ratio) → IsLowest x → IsLowest y → IsLowestTerms (x.numerator *ℤ y.numerator) (x.denominator *ℤ y.denominator) (product_of x y).numerator (product_of x y).denominator
product_terms x y lx ly = lowest_terms_exist _ _ (product_nonzero x.denominator y.denominator lx.positive ly.positive)

pub sum_undone : (x y : Ratio) → IsLowest x → IsLowest y → sum_of (sum_of x y) (negated y) ≡ x
sum_undone x y lx ly =
    sym (lowest_is (u *ℤ d +ℤ neg_ℤ c *ℤ v) (v *ℤ d) a b (product_nonzero v d sum.positive ly.positive) (record { positive = lx.positive; coprime = lx.coprime; same_value = same }))
  where
    a : ℤ
    a = x.numerator

    b : ℤ
    b = x.denominator

    c : ℤ
    c = y.numerator

    d : ℤ
    d = y.denominator

    u : ℤ
    u = (sum_of x y).numerator

    v : ℤ
    v = (sum_of x y).denominator

    sum : IsLowestTerms (a *ℤ d +ℤ c *ℤ b) (b *ℤ d) u v
    sum = sum_terms x y lx ly

    same : a *ℤ (v *ℤ d) ≡ (u *ℤ d +ℤ neg_ℤ c *ℤ v) *ℤ b
    same =
        let e = sum.same_value in
        omega (
          arith,
          sums,
          ring5 (λ a v d u b. a ⊗ (v ⊗ d)) (λ a v d u b. v ⊗ a ⊗ d) refl a v d u b,
          ring5 (λ u d c v b. (u ⊗ d ⊕ minus c ⊗ v) ⊗ b) (λ u d c v b. u ⊗ (b ⊗ d) ⊖ v ⊗ c ⊗ b) refl u d c v b,
          ring5 (λ a d c b v. (a ⊗ d ⊕ c ⊗ b) ⊗ v) (λ a d c b v. v ⊗ a ⊗ d ⊕ v ⊗ c ⊗ b) refl a d c b v,
        )

pub product_undone : (x y : Ratio) → IsLowest x → IsLowest y → y.numerator ≢ pos 0 → product_of (product_of x y) (reciprocal y) ≡ x
product_undone x y lx ly h =
    sym (lowest_is (u *ℤ r) (v *ℤ s) a b (product_nonzero v s product.positive inverse.positive) (record { positive = lx.positive; coprime = lx.coprime; same_value = same }))
  where
    a : ℤ
    a = x.numerator

    b : ℤ
    b = x.denominator

    c : ℤ
    c = y.numerator

    d : ℤ
    d = y.denominator

    u : ℤ
    u = (product_of x y).numerator

    v : ℤ
    v = (product_of x y).denominator

    r : ℤ
    r = (reciprocal y).numerator

    s : ℤ
    s = (reciprocal y).denominator

    product : IsLowestTerms (a *ℤ c) (b *ℤ d) u v
    product = product_terms x y lx ly

    inverse : IsLowestTerms d c r s
    inverse = lowest_terms_exist d c h

    nonzero_factor : d *ℤ c ≢ pos 0
    nonzero_factor e = h (cancel d c (pos 0) ly.positive (e ∙ sym (product-zero d)))

    same : a *ℤ (v *ℤ s) ≡ (u *ℤ r) *ℤ b
    same = cancel_nonzero (d *ℤ c) (a *ℤ (v *ℤ s)) ((u *ℤ r) *ℤ b) nonzero_factor
        (ring5 (λ a v s d c. (d ⊗ c) ⊗ (a ⊗ (v ⊗ s))) (λ a v s d c. ((a ⊗ c) ⊗ v) ⊗ (d ⊗ s)) refl a v s d c
        ∙ ap₂ (λ (m n : ℤ). m *ℤ n) (sym product.same_value) (sym inverse.same_value)
        ∙ ring6 (λ u b d r c k. (u ⊗ (b ⊗ d)) ⊗ (r ⊗ c)) (λ u b d r c k. (d ⊗ c) ⊗ ((u ⊗ r) ⊗ b)) refl u b d r c (pos 0))

pub rational_laws_lem : RationalLaws
rational_laws_lem = record {
  lowest_value = λ n d h. (is_lowest n d h, (lowest_terms_exist n d h).same_value);
  sum_undone = sum_undone;
  product_undone = product_undone;
}

-- ---- their order
pub equal_only_itself : (x y : Ratio) → IsLowest x → IsLowest y → ratio_cmp x y ≡ Equal → x ≡ y
equal_only_itself x y lx ly e =
    let same = same_from_same_value x.numerator x.denominator y.numerator y.denominator lx.positive ly.positive lx.coprime ly.coprime ((fraction_cmp_equal x.numerator x.denominator y.numerator y.denominator).0 e) in
    ap₂ (λ (a b : ℤ). let r : Ratio = record { numerator = a; denominator = b } in r) same.0 same.1

pub rational_order_lem : RationalOrder
rational_order_lem = record {
  reversed = λ x y. fraction_cmp_reversed x.numerator x.denominator y.numerator y.denominator;
  transitive = λ x y z lx ly lz. fraction_cmp_transitive x.numerator x.denominator y.numerator y.denominator z.numerator z.denominator lx.positive ly.positive lz.positive;
  equal_only_itself = λ x y lx ly. (equal_only_itself x y lx ly, λ e. ap (ratio_cmp x) (sym e) ∙ fraction_cmp_reflexive x.numerator x.denominator);
}
