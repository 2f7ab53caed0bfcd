-- Amounts as fractions: when two are the same, when one is worse, and what is in lowest terms.
use Rattle.std.proofs.Common.{◌≡◌, ◌≢◌, ◌⊎◌, ◌↔◌, ℕ, ◌*◌, ◌^◌, ◌<◌, ◌≤◌, true, false, ◌&&◌, inl, inr, Some, None, ℤ, pos, negsuc, ◌*ℤ◌, ◌<ℤ◌, int_lt, unsigned_abs, int_div, refl, sym, ap, ap₂, subst, ◌∙◌, arith, FitsSigned, to_z, of_z, w64, mul-le-mul_left}
use mir.Syntax.{w128}
use Prim.Native.Nat.{◌∣◌}
use Rattle.std.proofs.Math.Nat.{le_of_dvd}
use Rattle.std.specs.Bool.{Decides}
use Rattle.std.specs.Cmp.{IsEquivalence, int_eq_equiv, signed_Decides}
use Rattle.std.specs.Ordering.{int_eq}
use Rattle.std.proofs.lemmas.Bool.{cases_Bool, and_parts, and_from, cond-true, cond-false, ltb-true, lt-ltb}
use Rattle.std.proofs.lemmas.Cmp.{and_equiv, on_equiv}
use Rattle.std.proofs.lemmas.Int.{ints, by_lt_z, to_z-of_z, to_z_pos, quot_fits, fits_signed_mul}
use Rattle.ror_integers.specs.Gcd.{gcd, int_gcd, exact_quotient}
use Rattle.ror_integers.specs.LowestTerms.{signed_by}
use Rattle.ror_integers.proofs.Comparisons.{fraction_less_transitive}
use Rattle.ror_integers.proofs.Gcd.{gcd-one_right, gcd_positive_right, gcd-dvd_left, gcd-dvd_right, absolute-exact_quotient}
use Rattle.ror_integers.proofs.LowestTerms.{not_zero, same_from_same_value, lowest_terms_exist}
use Rattle.ror_table.specs.declared.amount.Amount.{Amount}
use Rattle.ror_table.specs.declared.direction.Direction.{Direction}
use Rattle.ror_table.specs.declared.direction.Direction.TheVariants.{Max, Min}
use Rattle.ror_table.specs.declared.limits.TheConstants.{AMOUNT_LIMIT}
use Rattle.ror_table.specs.Amounts.{IsAmount, whole, lowest, is_within, amount_of, is_same, is_smaller, is_worse}

-- ---- tests of integers
pub lt_of_test : (a b : ℤ) → int_lt a b ≡ true → a <ℤ b
lt_of_test a b h = omega (arith, ints)

pub test_of_lt : (a b : ℤ) → a <ℤ b → int_lt a b ≡ true
test_of_lt a b h = grind (arith, ints)

test_fails : (a b : ℤ) → int_lt a b ≡ true → int_lt b a ≡ false
test_fails a b h = grind (arith, ints)

-- ---- the same
same_parts : (p q : Amount) → p.num ≡ q.num → p.den ≡ q.den → p ≡ q
same_parts p q e f = λ i. record { num = e i; den = f i }

pub is_same-Decides : (p q : Amount) → Decides (is_same p q) (p ≡ q)
is_same-Decides p q = (
  λ h. let both = and_parts (int_eq p.num q.num) (int_eq p.den q.den) h in
      same_parts p q ((signed_Decides p.num q.num).0 both.0) ((signed_Decides p.den q.den).0 both.1),
  λ e. and_from (int_eq p.num q.num) (int_eq p.den q.den)
      ((signed_Decides p.num q.num).1 (ap (λ (x : Amount). x.num) e))
      ((signed_Decides p.den q.den).1 (ap (λ (x : Amount). x.den) e)),
)

pub is_same-equiv : IsEquivalence is_same
is_same-equiv = and_equiv (on_equiv (λ (p : Amount). p.num) int_eq_equiv) (on_equiv (λ (p : Amount). p.den) int_eq_equiv)

-- ---- smaller
pub is_smaller-trans : (p q r : Amount) → IsAmount p → IsAmount q → IsAmount r → is_smaller p q ≡ true → is_smaller q r ≡ true → is_smaller p r ≡ true
is_smaller-trans p q r hp hq hr h k =
    test_of_lt (p.num *ℤ r.den) (r.num *ℤ p.den)
    (fraction_less_transitive p.num p.den q.num q.den r.num r.den hp.positive hq.positive hr.positive
    (lt_of_test (p.num *ℤ q.den) (q.num *ℤ p.den) h) (lt_of_test (q.num *ℤ r.den) (r.num *ℤ q.den) k))

pub is_smaller-itself : (p : Amount) → is_smaller p p ≡ false
is_smaller-itself p = test_itself (p.num *ℤ p.den)
  where
    test_itself : (a : ℤ) → int_lt a a ≡ false
    test_itself a = grind (arith, ints)

pub is_smaller-one_way : (p q : Amount) → is_smaller p q ≡ true → is_smaller q p ≡ false
is_smaller-one_way p q h = test_fails (p.num *ℤ q.den) (q.num *ℤ p.den) h

-- equal cross products are those of one fraction in lowest terms
pub same_from_products : (p q : Amount) → IsAmount p → IsAmount q → p.num *ℤ q.den ≡ q.num *ℤ p.den → p ≡ q
same_from_products p q hp hq e =
    let s = same_from_same_value p.num p.den q.num q.den hp.positive hq.positive hp.coprime hq.coprime e in
    same_parts p q s.0 s.1

compared : {P : Type 0} (a b : ℤ) → (a <ℤ b → P) → (a ≡ b → P) → (b <ℤ a → P) → P
compared a b f g h = by_lt_z a b f (λ l. by_lt_z b a h (λ k. g (omega (arith, ints))))

pub is_smaller-total : (p q : Amount) → IsAmount p → IsAmount q → (is_smaller p q ≡ true) ⊎ ((p ≡ q) ⊎ (is_smaller q p ≡ true))
is_smaller-total p q hp hq =
    compared (p.num *ℤ q.den) (q.num *ℤ p.den)
    (λ l. inl (test_of_lt (p.num *ℤ q.den) (q.num *ℤ p.den) l))
    (λ e. inr (inl (same_from_products p q hp hq e)))
    (λ l. inr (inr (test_of_lt (q.num *ℤ p.den) (p.num *ℤ q.den) l)))

-- ---- worse
pub is_worse-trans : (d : Direction) (p q r : Amount) → IsAmount p → IsAmount q → IsAmount r → is_worse d p q ≡ true → is_worse d q r ≡ true → is_worse d p r ≡ true
is_worse-trans Max p q r hp hq hr h k = is_smaller-trans p q r hp hq hr h k
is_worse-trans Min p q r hp hq hr h k = is_smaller-trans r q p hr hq hp k h

pub is_worse-itself : (d : Direction) (p : Amount) → is_worse d p p ≡ false
is_worse-itself Max p = is_smaller-itself p
is_worse-itself Min p = is_smaller-itself p

pub is_worse-one_way : (d : Direction) (p q : Amount) → is_worse d p q ≡ true → is_worse d q p ≡ false
is_worse-one_way Max p q h = is_smaller-one_way p q h
is_worse-one_way Min p q h = is_smaller-one_way q p h

pub is_worse-total : (d : Direction) (p q : Amount) → IsAmount p → IsAmount q → (is_worse d p q ≡ true) ⊎ ((p ≡ q) ⊎ (is_worse d q p ≡ true))
is_worse-total Max p q hp hq = is_smaller-total p q hp hq
is_worse-total Min p q hp hq = elim (is_smaller-total p q hp hq) [
  | inl less ↦ inr (inr less)
  | inr rest ↦ elim rest [
    | inl same ↦ inr (inl same)
    | inr greater ↦ inl greater
  ]
]

-- ---- made
pub IsAmount-whole : (n : ℤ) → unsigned_abs n < AMOUNT_LIMIT → IsAmount (whole n)
IsAmount-whole n h = record {
  positive = omega (arith, ints);
  coprime = gcd-one_right (unsigned_abs n);
  num_bounded = h;
  den_bounded = omega arith;
}

within_test : (n : ℤ) → is_within n ≡ true → unsigned_abs n < AMOUNT_LIMIT
within_test n h = ltb-true (unsigned_abs n) AMOUNT_LIMIT h

test_within : (n : ℤ) → unsigned_abs n < AMOUNT_LIMIT → is_within n ≡ true
test_within n h = lt-ltb (unsigned_abs n) AMOUNT_LIMIT h

over_positive : (n d : ℤ) → pos 0 <ℤ d → signed_by d n ≡ n
over_positive n (pos d) h = refl
over_positive n (negsuc d) h = absurd h.lt

common_positive : (n d : ℤ) → pos 0 <ℤ d → 0 < int_gcd n d
common_positive n d h = gcd_positive_right (unsigned_abs n) (unsigned_abs d) (omega (arith, ints))

common_small : (n d : ℤ) → pos 0 <ℤ d → int_gcd n d ≤ unsigned_abs d
common_small n d h = le_of_dvd (omega (arith, ints)) (gcd-dvd_right (unsigned_abs n) (unsigned_abs d))

-- where the denominator is above 0 both are divided by the greatest common divisor
pub lowest_is : (n d : ℤ) → pos 0 <ℤ d → lowest n d ≡ record { num = int_div n (pos (int_gcd n d)); den = int_div d (pos (int_gcd n d)) }
lowest_is n d h = λ i. record { num = int_div (over_positive n d h i) (pos (int_gcd n d)); den = int_div (over_positive d d h i) (pos (int_gcd n d)) }

quotient_bounded : (x : ℤ) (g : ℕ) → 0 < g → g ∣ unsigned_abs x → unsigned_abs (exact_quotient x g) ≤ unsigned_abs x
quotient_bounded x g h k =
    let e = absolute-exact_quotient x g k in
    let l : unsigned_abs (exact_quotient x g) * 1 ≤ unsigned_abs (exact_quotient x g) * g = mul-le-mul_left (unsigned_abs (exact_quotient x g)) h in
    omega arith

pub IsAmount-lowest : (n d : ℤ) → pos 0 <ℤ d → unsigned_abs n < AMOUNT_LIMIT → unsigned_abs d < AMOUNT_LIMIT → IsAmount (lowest n d)
IsAmount-lowest n d h ln ld =
    let terms = lowest_terms_exist n d (not_zero d h) in
    let bn = quotient_bounded n (int_gcd n d) (common_positive n d h) (gcd-dvd_left (unsigned_abs n) (unsigned_abs d)) in
    let bd = quotient_bounded d (int_gcd n d) (common_positive n d h) (gcd-dvd_right (unsigned_abs n) (unsigned_abs d)) in
    record {
      positive = terms.positive;
      coprime = terms.coprime;
      num_bounded = rw (over_positive n d h) (omega arith);
      den_bounded = rw (over_positive d d h) (omega arith);
    }

pub amount_of-some : (n d : ℤ) → pos 0 <ℤ d → unsigned_abs n < AMOUNT_LIMIT → unsigned_abs d < AMOUNT_LIMIT → amount_of n d ≡ Some (lowest n d)
unfolding amount_of
amount_of-some n d h ln ld = cond-true _ _ _ (and_from _ _ (and_from _ _ (test_of_lt (pos 0) d h) (test_within n ln)) (test_within d ld))

-- ---- the code's quotients
pub divisor_fits : (n d : ℤ) (g : ℕ) → g ≡ int_gcd n d → pos 0 <ℤ d → unsigned_abs d < AMOUNT_LIMIT → (0 < g) × (g < 2 ^ 63)
divisor_fits n d g e h l = let a = common_positive n d h in let b = common_small n d h in (omega arith, omega arith)

pub code_divisor : (n d : ℤ) (g a b : ℕ) → FitsSigned w64 n → FitsSigned w64 d → g ≡ gcd a b → a ≡ unsigned_abs (to_z w64 (of_z w64 n)) → b ≡ unsigned_abs (to_z w64 (of_z w64 d)) → g ≡ int_gcd n d
code_divisor n d g a b fn fd e ea eb =
    e ∙ ap₂ gcd (ea ∙ ap unsigned_abs (to_z-of_z w64 n fn)) (eb ∙ ap unsigned_abs (to_z-of_z w64 d fd))

code_quotient : (x : ℤ) (g : ℕ) → FitsSigned w64 x → 0 < g → g < 2 ^ 63 → to_z w64 (of_z w64 (int_div (to_z w64 (of_z w64 x)) (to_z w64 g))) ≡ int_div x (pos g)
code_quotient x g f h l =
    ap₂ (λ (a b : ℤ). to_z w64 (of_z w64 (int_div a b))) (to_z-of_z w64 x f) (to_z_pos w64 g l)
    ∙ to_z-of_z w64 (int_div x (pos g)) (quot_fits w64 x (pos g) f (omega (arith, ints)))

pub code_quotient_fits : (x : ℤ) (g : ℕ) → FitsSigned w64 x → 0 < g → g < 2 ^ 63 → FitsSigned w64 (int_div (to_z w64 (of_z w64 x)) (to_z w64 g))
code_quotient_fits x g f h l =
    subst (λ (y : ℤ). FitsSigned w64 y) (sym (ap₂ int_div (to_z-of_z w64 x f) (to_z_pos w64 g l))) (quot_fits w64 x (pos g) f (omega (arith, ints)))

pub code_lowest : (n d : ℤ) (g : ℕ) → g ≡ int_gcd n d → FitsSigned w64 n → FitsSigned w64 d → pos 0 <ℤ d → unsigned_abs d < AMOUNT_LIMIT
    → (record {
      num = to_z w64 (of_z w64 (int_div (to_z w64 (of_z w64 n)) (to_z w64 g)));
      den = to_z w64 (of_z w64 (int_div (to_z w64 (of_z w64 d)) (to_z w64 g)));
    }) ≡ lowest n d
code_lowest n d g e fn fd h l =
    let small = divisor_fits n d g e h l in
    let num = code_quotient n g fn small.0 small.1 in
    let den = code_quotient d g fd small.0 small.1 in
    same_parts (record {
      num = to_z w64 (of_z w64 (int_div (to_z w64 (of_z w64 n)) (to_z w64 g)));
      den = to_z w64 (of_z w64 (int_div (to_z w64 (of_z w64 d)) (to_z w64 g)));
    }) (record { num = int_div n (pos g); den = int_div d (pos g) }) num den
    ∙ ap (λ (k : ℕ). record { num = int_div n (pos k); den = int_div d (pos k) }) e
    ∙ sym (lowest_is n d h)

-- ---- the code's products
narrow : (a b : ℤ) → FitsSigned w64 a → b ≡ to_z w64 (of_z w64 a) → b ≡ a
narrow a b f e = e ∙ to_z-of_z w64 a f

pub wide_product : (a b c d : ℤ) → FitsSigned w64 a → FitsSigned w64 b → c ≡ to_z w64 (of_z w64 a) → d ≡ to_z w64 (of_z w64 b) → to_z w128 (of_z w128 (to_z w128 (of_z w128 c) *ℤ to_z w128 (of_z w128 d))) ≡ a *ℤ b
wide_product a b c d fa fb ec ed =
    let ga : FitsSigned w128 a = omega (arith, ints) in
    let gb : FitsSigned w128 b = omega (arith, ints) in
    let la : unsigned_abs a ≤ 2 ^ 63 = omega (arith, ints) in
    let lb : unsigned_abs b ≤ 2 ^ 63 = omega (arith, ints) in
    ap₂ (λ (x y : ℤ). to_z w128 (of_z w128 (to_z w128 (of_z w128 x) *ℤ to_z w128 (of_z w128 y)))) (narrow a c fa ec) (narrow b d fb ed)
    ∙ ap₂ (λ (x y : ℤ). to_z w128 (of_z w128 (x *ℤ y))) (to_z-of_z w128 a ga) (to_z-of_z w128 b gb)
    ∙ to_z-of_z w128 (a *ℤ b) (fits_signed_mul w128 a b (2 ^ 63) (2 ^ 63) la lb (omega arith))

-- ---- the law
pub amounts_made : (n d : ℤ) (p : Amount) → amount_of n d ≡ Some p → IsAmount p × (p.num *ℤ d ≡ n *ℤ p.den)
unfolding amount_of
amounts_made n d p e = elim (cases_Bool (int_lt (pos 0) d && is_within n && is_within d)) [
  | inl holds ↦
      let both = and_parts (int_lt (pos 0) d && is_within n) (is_within d) holds in
      let first = and_parts (int_lt (pos 0) d) (is_within n) both.0 in
      let h = lt_of_test (pos 0) d first.0 in
      let made : Some (lowest n d) ≡ Some p = sym (cond-true _ _ _ holds) ∙ e in
      let same : lowest n d ≡ p = cc in
      subst (λ (x : Amount). IsAmount x × (x.num *ℤ d ≡ n *ℤ x.den)) same
      (IsAmount-lowest n d h (within_test n first.1) (within_test d both.1), (lowest_terms_exist n d (not_zero d h)).same_value)
  | inr fails ↦ absurd (let none = sym (cond-false _ _ _ fails) ∙ e in cc)
]

pub amounts_refused : (n d : ℤ) → (amount_of n d ≡ None) ↔ ((pos 0 <ℤ d) × (unsigned_abs n < 10 ^ 18) × (unsigned_abs d < 10 ^ 18) → ⊥)
unfolding amount_of
amounts_refused n d = (
  λ e h. let made = amount_of-some n d h.0 h.1 h.2 in let no = sym made ∙ e in cc,
  λ no. elim (cases_Bool (int_lt (pos 0) d && is_within n && is_within d)) [
    | inl holds ↦
        let both = and_parts (int_lt (pos 0) d && is_within n) (is_within d) holds in
        let first = and_parts (int_lt (pos 0) d) (is_within n) both.0 in
        absurd (no (lt_of_test (pos 0) d first.0, within_test n first.1, within_test d both.1))
    | inr fails ↦ cond-false _ _ _ fails
  ],
)

pub same_is_equal_products : (p q : Amount) → IsAmount p → IsAmount q → (is_same p q ≡ true) ↔ (p.num *ℤ q.den ≡ q.num *ℤ p.den)
same_is_equal_products p q hp hq = (
  λ h. subst (λ (x : Amount). p.num *ℤ x.den ≡ x.num *ℤ p.den) ((is_same-Decides p q).0 h) refl,
  λ e. (is_same-Decides p q).1 (same_from_products p q hp hq e),
)

pub not_same : (p q : Amount) → is_smaller p q ≡ true → is_same p q ≡ false
not_same p q h = elim (cases_Bool (is_same p q)) [
  | inl same ↦
      let itself : is_smaller p p ≡ true = subst (λ (x : Amount). is_smaller p x ≡ true) (sym ((is_same-Decides p q).0 same)) h in
      absurd (let no = sym itself ∙ is_smaller-itself p in cc)
  | inr differ ↦ differ
]

pub amounts_total : (p q : Amount) → IsAmount p → IsAmount q → (is_smaller p q ≡ true) ⊎ ((is_same p q ≡ true) ⊎ (is_smaller q p ≡ true))
amounts_total p q hp hq = elim (is_smaller-total p q hp hq) [
  | inl less ↦ inl less
  | inr rest ↦ elim rest [
    | inl same ↦ inr (inl ((is_same-Decides p q).1 same))
    | inr greater ↦ inr (inr greater)
  ]
]

-- an amount is made of its own numbers
pub amounts_again : (p : Amount) → IsAmount p → amount_of p.num p.den ≡ Some p
amounts_again p h =
    let made = amount_of-some p.num p.den h.positive h.num_bounded h.den_bounded in
    let is = amounts_made p.num p.den (lowest p.num p.den) made in
    made ∙ ap Some (same_from_products (lowest p.num p.den) p is.0 h is.1)
