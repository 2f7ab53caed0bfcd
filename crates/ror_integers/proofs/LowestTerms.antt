-- Lowest terms exist and are unique, of fractions and of lists.
use Rattle.std.proofs.Common.{◌≡◌, ◌≢◌, ℕ, zero, suc, ◌*◌, ◌<◌, List, [], ◌∷◌, ℤ, pos, negsuc, ◌*ℤ◌, neg_ℤ, ◌<ℤ◌, unsigned_abs, refl, ap, ap₂, sym, ◌∙◌, subst, arith, mul_comm, mul-one, mul-pos}
use Prim.Native.Nat.{◌∣◌}
use Rattle.std.proofs.Math.Nat.{dvd_antisymm, dvd-mul_left}
use Rattle.std.proofs.lemmas.Int.{ints, unsigned_abs-mul}
use Rattle.ror_integers.specs.Vectors.{entry, scaled_row}
use Rattle.ror_integers.specs.Gcd.{gcd, int_gcd, gcd_of, DividesAll, exact_quotient, divided}
use Rattle.ror_integers.specs.LowestTerms.{IsLowestTerms, signed_by, lowest_numerator, lowest_denominator, reduced}
use Rattle.ror_integers.proofs.Ring.{product_comm, negation-product, product-negation}
use Rattle.ror_integers.proofs.Order.{cancel, positive_factor}
use Rattle.ror_integers.proofs.Gcd.{gcd-dvd_left, gcd-dvd_right, gcd_comm, gcd_scaled, gauss, gcd_positive_right, exact_quotient_times, exact_quotient_is, gcd_of-divides, gcd_of-scaled_row, one_from_same, one_is_coprime, divided_one}
use Rattle.ror_integers.proofs.Solver.{ring3, ◌⊗◌}

-- ---- fractions
pub not_zero : (d : ℤ) → pos 0 <ℤ d → d ≢ pos 0
not_zero d h e = absurd (omega (arith, ints))

same_denominator : (p q r s : ℤ) → int_gcd p q ≡ 1 → p *ℤ s ≡ r *ℤ q → unsigned_abs q ∣ unsigned_abs s
same_denominator p q r s e h =
    let a : unsigned_abs p * unsigned_abs s ≡ unsigned_abs r * unsigned_abs q = sym (unsigned_abs-mul p s) ∙ ap unsigned_abs h ∙ unsigned_abs-mul r q in
    gauss (unsigned_abs q) (unsigned_abs p) (unsigned_abs s) (gcd_comm (unsigned_abs q) (unsigned_abs p) ∙ e)
    (subst (λ (x : ℕ). unsigned_abs q ∣ x) (sym a) (dvd-mul_left (unsigned_abs q) (unsigned_abs r)))

pub same_from_same_value : (p q r s : ℤ) → pos 0 <ℤ q → pos 0 <ℤ s → int_gcd p q ≡ 1 → int_gcd r s ≡ 1 → p *ℤ s ≡ r *ℤ q → (p ≡ r) × (q ≡ s)
same_from_same_value p q r s hq hs e f h =
    let a : unsigned_abs q ≡ unsigned_abs s = dvd_antisymm (same_denominator p q r s e h) (same_denominator r s p q f (sym h)) in
    let b : q ≡ s = omega (arith, ints) in
    (cancel s p r hs (product_comm s p ∙ h ∙ ap (λ (x : ℤ). r *ℤ x) b ∙ product_comm r s), b)

absolute-signed_by : (d n : ℤ) → unsigned_abs (signed_by d n) ≡ unsigned_abs n
absolute-signed_by (pos d) n = refl
absolute-signed_by (negsuc d) n = omega (arith, ints)

signed_by_positive : (d : ℤ) → d ≢ pos 0 → pos 0 <ℤ signed_by d d
signed_by_positive (pos zero) h = absurd (h refl)
signed_by_positive (pos (suc d)) h = omega (arith, ints)
signed_by_positive (negsuc d) h = omega (arith, ints)

signed_by-product : (d n : ℤ) → signed_by d n *ℤ d ≡ n *ℤ signed_by d d
signed_by-product (pos d) n = refl
signed_by-product (negsuc d) n = negation-product n (negsuc d) ∙ sym (product-negation n (negsuc d))

absolute_positive : (d : ℤ) → d ≢ pos 0 → 0 < unsigned_abs d
absolute_positive (pos zero) h = absurd (h refl)
absolute_positive (pos (suc d)) h = omega arith
absolute_positive (negsuc d) h = omega arith

pub lowest_terms_exist : (n d : ℤ) → d ≢ pos 0 → IsLowestTerms n d (lowest_numerator n d) (lowest_denominator n d)
lowest_terms_exist n d h = record {
  positive = positive_factor (pos g) q gz (subst (λ (x : ℤ). pos 0 <ℤ x) (sym (product_comm (pos g) q ∙ qg)) (signed_by_positive d h));
  coprime = one_from_same g (int_gcd p q) gp (sym (gcd_scaled g (unsigned_abs p) (unsigned_abs q)) ∙ ap₂ gcd (scaled_back p (signed_by d n) n pg (absolute-signed_by d n)) (scaled_back q (signed_by d d) d qg (absolute-signed_by d d)));
  same_value = cancel (pos g) (p *ℤ d) (n *ℤ q) gz (same_times_g);
}
  where
    g : ℕ
    g = int_gcd n d

    p : ℤ
    p = lowest_numerator n d

    q : ℤ
    q = lowest_denominator n d

    gp : 0 < g
    gp = gcd_positive_right (unsigned_abs n) (unsigned_abs d) (absolute_positive d h)

    gz : pos 0 <ℤ pos g
    gz = let l = gp in omega (arith, ints)

    pg : p *ℤ pos g ≡ signed_by d n
    pg = exact_quotient_times (signed_by d n) g (subst (λ (x : ℕ). g ∣ x) (sym (absolute-signed_by d n)) (gcd-dvd_left (unsigned_abs n) (unsigned_abs d)))

    qg : q *ℤ pos g ≡ signed_by d d
    qg = exact_quotient_times (signed_by d d) g (subst (λ (x : ℕ). g ∣ x) (sym (absolute-signed_by d d)) (gcd-dvd_right (unsigned_abs n) (unsigned_abs d)))

    scaled_back : (x y z : ℤ) → x *ℤ pos g ≡ y → unsigned_abs y ≡ unsigned_abs z → g * unsigned_abs x ≡ unsigned_abs z
    scaled_back x y z e f = mul_comm g (unsigned_abs x) ∙ sym (unsigned_abs-mul x (pos g)) ∙ ap unsigned_abs e ∙ f

    same_times_g : pos g *ℤ (p *ℤ d) ≡ pos g *ℤ (n *ℤ q)
    same_times_g =
        ring3 (λ a b c. a ⊗ (b ⊗ c)) (λ a b c. (b ⊗ a) ⊗ c) refl (pos g) p d
        ∙ ap (λ (x : ℤ). x *ℤ d) pg ∙ signed_by-product d n ∙ ap (λ (x : ℤ). n *ℤ x) (sym qg)
        ∙ ring3 (λ a b c. b ⊗ (c ⊗ a)) (λ a b c. a ⊗ (b ⊗ c)) refl (pos g) n q

-- two fractions of one value have equal cross products
pub same_value_trans : (n d p q r s : ℤ) → d ≢ pos 0 → p *ℤ d ≡ n *ℤ q → r *ℤ d ≡ n *ℤ s → p *ℤ s ≡ r *ℤ q
same_value_trans n d p q r s h e f =
    cancel (signed_by d d) (p *ℤ s) (r *ℤ q) (signed_by_positive d h)
    (signed d (ring3 (λ a b c. a ⊗ (b ⊗ c)) (λ a b c. (b ⊗ a) ⊗ c) refl d p s ∙ ap (λ (x : ℤ). x *ℤ s) e
    ∙ ring3 (λ a b c. a ⊗ b ⊗ c) (λ a b c. (a ⊗ c) ⊗ b) refl n q s ∙ ap (λ (x : ℤ). x *ℤ q) (sym f) ∙ ring3 (λ a b c. b ⊗ a ⊗ c) (λ a b c. a ⊗ (b ⊗ c)) refl d r q))
  where
    signed : (d : ℤ) → d *ℤ (p *ℤ s) ≡ d *ℤ (r *ℤ q) → signed_by d d *ℤ (p *ℤ s) ≡ signed_by d d *ℤ (r *ℤ q)
    signed (pos d) e = e
    signed (negsuc d) e = negation-product (negsuc d) (p *ℤ s) ∙ ap neg_ℤ e ∙ sym (negation-product (negsuc d) (r *ℤ q))

pub lowest_terms_unique : (n d p q r s : ℤ) → d ≢ pos 0 → IsLowestTerms n d p q → IsLowestTerms n d r s → (p ≡ r) × (q ≡ s)
lowest_terms_unique n d p q r s h a b =
    same_from_same_value p q r s a.positive b.positive a.coprime b.coprime (same_value_trans n d p q r s h a.same_value b.same_value)

-- what is in lowest terms is found by the two functions
pub lowest_terms_are : (n d p q : ℤ) → d ≢ pos 0 → IsLowestTerms n d p q → (p ≡ lowest_numerator n d) × (q ≡ lowest_denominator n d)
lowest_terms_are n d p q h a = lowest_terms_unique n d p q (lowest_numerator n d) (lowest_denominator n d) h a (lowest_terms_exist n d h)

-- ---- lists
pub scaled_row_cancel : (k : ℤ) (xs ys : List ℤ) → pos 0 <ℤ k → scaled_row k xs ≡ scaled_row k ys → xs ≡ ys
scaled_row_cancel k [] [] h e = refl
scaled_row_cancel k [] (y ∷ ys) h e = absurd (cc)
scaled_row_cancel k (x ∷ xs) [] h e = absurd (cc)
scaled_row_cancel k (x ∷ xs) (y ∷ ys) h e =
    let a : k *ℤ x ≡ k *ℤ y = cc in
    let b : scaled_row k xs ≡ scaled_row k ys = cc in
    ap₂ (λ (z : ℤ) (zs : List ℤ). z ∷ zs) (cancel k x y h a) (scaled_row_cancel k xs ys h b)

pub proportional_same : (a b : ℤ) (xs ys : List ℤ) → pos 0 <ℤ a → pos 0 <ℤ b → gcd_of xs ≡ 1 → gcd_of ys ≡ 1 → scaled_row a xs ≡ scaled_row b ys → xs ≡ ys
proportional_same a b xs ys ha hb e f h =
    let c : unsigned_abs a * gcd_of xs ≡ unsigned_abs b * gcd_of ys = sym (gcd_of-scaled_row a xs) ∙ ap gcd_of h ∙ gcd_of-scaled_row b ys in
    let d : unsigned_abs a ≡ unsigned_abs b = sym (mul-one (unsigned_abs a)) ∙ ap (λ (g : ℕ). unsigned_abs a * g) (sym e) ∙ c ∙ ap (λ (g : ℕ). unsigned_abs b * g) f ∙ mul-one (unsigned_abs b) in
    let s : b ≡ a = omega (arith, ints) in
    scaled_row_cancel a xs ys ha (h ∙ ap (λ (k : ℤ). scaled_row k ys) s)

pub exact_quotient_scaled : (k d : ℕ) (x : ℤ) → 0 < k → 0 < d → d ∣ unsigned_abs x → exact_quotient (pos k *ℤ x) (k * d) ≡ exact_quotient x d
exact_quotient_scaled k d x hk hd h =
    exact_quotient_is (pos k *ℤ x) (exact_quotient x d) (k * d) (mul-pos hk hd)
    (ring3 (λ a b c. a ⊗ (b ⊗ c)) (λ a b c. b ⊗ (a ⊗ c)) refl (exact_quotient x d) (pos k) (pos d) ∙ ap (λ (y : ℤ). pos k *ℤ y) (exact_quotient_times x d h))

divided_scaled : (k d : ℕ) (xs : List ℤ) → 0 < k → 0 < d → DividesAll d xs → divided (scaled_row (pos k) xs) (k * d) ≡ divided xs d
divided_scaled k d [] hk hd h = refl
divided_scaled k d (x ∷ xs) hk hd h = ap₂ (λ (z : ℤ) (zs : List ℤ). z ∷ zs) (exact_quotient_scaled k d x hk hd h.0) (divided_scaled k d xs hk hd h.1)

pub reduced-scaled_row : (k : ℤ) (xs : List ℤ) → pos 0 <ℤ k → 0 < gcd_of xs → reduced (scaled_row k xs) ≡ reduced xs
reduced-scaled_row (negsuc k) xs h p = absurd h.lt
reduced-scaled_row (pos k) xs h p =
    ap (divided (scaled_row (pos k) xs)) (gcd_of-scaled_row (pos k) xs) ∙ divided_scaled k (gcd_of xs) xs (omega (arith, ints)) p (gcd_of-divides xs)

-- the sign of an exact quotient
pub exact_quotient_positive : (x : ℤ) (d : ℕ) → 0 < d → d ∣ unsigned_abs x → pos 0 <ℤ x → pos 0 <ℤ exact_quotient x d
exact_quotient_positive x d hd h p =
    positive_factor (pos d) (exact_quotient x d) (omega (arith, ints)) (subst (λ (y : ℤ). pos 0 <ℤ y) (sym (product_comm (pos d) (exact_quotient x d) ∙ exact_quotient_times x d h)) p)

-- a list with a 1 among its entries is in lowest terms
pub reduced_with_one : (xs : List ℤ) (j : ℕ) → entry xs j ≡ pos 1 → reduced xs ≡ xs
reduced_with_one xs j e = ap (divided xs) (one_is_coprime xs j e) ∙ divided_one xs
