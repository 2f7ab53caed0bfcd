-- What the steps of a sum, a product, a reduction and a reciprocal make.
use Rattle.std.proofs.Common.{◌≡◌, ◌≢◌, ℕ, suc, ℤ, pos, negsuc, ◌+ℤ◌, ◌*ℤ◌, neg_ℤ, ◌<ℤ◌, unsigned_abs, int_div, None, refl, ap, ap₂, sym, ◌∙◌, subst, arith}
use Rattle.std.proofs.lemmas.Int.{ints}
use Rattle.ror_integers.specs.Gcd.{gcd, int_gcd, exact_quotient}
use Rattle.ror_integers.specs.LowestTerms.{IsLowestTerms, signed_by}
use Rattle.ror_word.specs.Within.{IsWithin}
use Rattle.ror_fraction.specs.Ratios.{Ratio, IsLowest, lowest, sum_of, sum_numbers, product_of, product_numbers, reciprocal}
use Rattle.ror_fraction.specs.Wide.{first_wide}
use Rattle.ror_fraction.proofs.RatioLemmas.{lowest_is, product_nonzero, sum_is_lowest, product_is_lowest, reciprocal_is_lowest}
use Rattle.ror_fraction.proofs.WideLemmas.{none_from_narrow}

-- terms that are lowest make a fraction that is
pub lowest_from_terms : (n d p q : ℤ) → IsLowestTerms n d p q → IsLowest (record { numerator = p; denominator = q })
lowest_from_terms n d p q terms = record { positive = terms.positive; coprime = terms.coprime }

-- ---- sums
pub record SumSteps (x y : Ratio) (common own other left right sum shared rest den num : ℤ) : Type 0 where
  pub common_is : common ≡ pos (int_gcd x.denominator y.denominator)
  pub own_is : own ≡ int_div x.denominator common
  pub other_is : other ≡ int_div y.denominator common
  pub left_is : left ≡ x.numerator *ℤ other
  pub right_is : right ≡ y.numerator *ℤ own
  pub sum_is : sum ≡ left +ℤ right
  pub shared_is : shared ≡ pos (int_gcd sum common)
  pub rest_is : rest ≡ int_div y.denominator shared
  pub den_is : den ≡ own *ℤ rest
  pub num_is : num ≡ int_div sum shared

pub sum_made : (x y : Ratio) (common own other left right sum shared rest den num : ℤ) → IsLowest x → IsLowest y → SumSteps x y common own other left right sum shared rest den num → IsLowest (record { numerator = num; denominator = den }) × (record { numerator = num; denominator = den } ≡ sum_of x y) × ((most : ℕ) → IsWithin most left → IsWithin most right → IsWithin most sum → IsWithin most den → first_wide most (sum_numbers x y) ≡ None)
sum_made x y common own other left right sum shared rest den num lx ly steps = (
  lowest_from_terms n (b *ℤ d) num den terms,
  lowest_is n (b *ℤ d) num den (product_nonzero b d lx.positive ly.positive) terms,
  λ most hl hr hs hd. none_from_narrow most (sum_numbers x y)
      (subst (IsWithin most) left_e hl, (subst (IsWithin most) right_e hr, (subst (IsWithin most) sum_e hs, (subst (IsWithin most) den_e hd, tt)))),
)
  where
    a : ℤ
    a = x.numerator

    b : ℤ
    b = x.denominator

    c : ℤ
    c = y.numerator

    d : ℤ
    d = y.denominator

    n : ℤ
    n = a *ℤ d +ℤ c *ℤ b

    g : ℕ
    g = int_gcd b d

    s : ℤ
    s = a *ℤ exact_quotient d g +ℤ c *ℤ exact_quotient b g

    h : ℕ
    h = int_gcd s (pos g)

    own_e : own ≡ exact_quotient b g
    own_e = steps.own_is ∙ ap (int_div b) steps.common_is

    left_e : left ≡ a *ℤ exact_quotient d g
    left_e = steps.left_is ∙ ap (λ (z : ℤ). a *ℤ z) (steps.other_is ∙ ap (int_div d) steps.common_is)

    right_e : right ≡ c *ℤ exact_quotient b g
    right_e = steps.right_is ∙ ap (λ (z : ℤ). c *ℤ z) own_e

    sum_e : sum ≡ s
    sum_e = steps.sum_is ∙ ap₂ (λ (u v : ℤ). u +ℤ v) left_e right_e

    shared_e : shared ≡ pos h
    shared_e = steps.shared_is ∙ ap₂ (λ (u v : ℤ). pos (int_gcd u v)) sum_e steps.common_is

    num_e : num ≡ exact_quotient s h
    num_e = steps.num_is ∙ ap₂ int_div sum_e shared_e

    den_e : den ≡ exact_quotient b g *ℤ exact_quotient d h
    den_e = steps.den_is ∙ ap₂ (λ (u v : ℤ). u *ℤ v) own_e (steps.rest_is ∙ ap (int_div d) shared_e)

    terms : IsLowestTerms n (b *ℤ d) num den
    terms = subst (λ (u : ℤ). IsLowestTerms n (b *ℤ d) u den) (sym num_e)
        (subst (λ (v : ℤ). IsLowestTerms n (b *ℤ d) (exact_quotient s h) v) (sym den_e)
        (sum_is_lowest a b c d lx.positive ly.positive lx.coprime ly.coprime))

-- ---- products
pub record ProductSteps (x y : Ratio) (across back own_num other_num own_den other_den num den : ℤ) : Type 0 where
  pub across_is : across ≡ pos (int_gcd x.numerator y.denominator)
  pub back_is : back ≡ pos (int_gcd y.numerator x.denominator)
  pub own_num_is : own_num ≡ int_div x.numerator across
  pub other_num_is : other_num ≡ int_div y.numerator back
  pub own_den_is : own_den ≡ int_div x.denominator back
  pub other_den_is : other_den ≡ int_div y.denominator across
  pub num_is : num ≡ own_num *ℤ other_num
  pub den_is : den ≡ own_den *ℤ other_den

pub product_made : (x y : Ratio) (across back own_num other_num own_den other_den num den : ℤ) → IsLowest x → IsLowest y → ProductSteps x y across back own_num other_num own_den other_den num den → IsLowest (record { numerator = num; denominator = den }) × (record { numerator = num; denominator = den } ≡ product_of x y) × ((most : ℕ) → IsWithin most num → IsWithin most den → first_wide most (product_numbers x y) ≡ None)
product_made x y across back own_num other_num own_den other_den num den lx ly steps = (
  lowest_from_terms (a *ℤ c) (b *ℤ d) num den terms,
  lowest_is (a *ℤ c) (b *ℤ d) num den (product_nonzero b d lx.positive ly.positive) terms,
  λ most hn hd. none_from_narrow most (product_numbers x y) (subst (IsWithin most) num_e hn, (subst (IsWithin most) den_e hd, tt)),
)
  where
    a : ℤ
    a = x.numerator

    b : ℤ
    b = x.denominator

    c : ℤ
    c = y.numerator

    d : ℤ
    d = y.denominator

    g : ℕ
    g = int_gcd a d

    h : ℕ
    h = int_gcd c b

    num_e : num ≡ exact_quotient a g *ℤ exact_quotient c h
    num_e = steps.num_is ∙ ap₂ (λ (u v : ℤ). u *ℤ v) (steps.own_num_is ∙ ap (int_div a) steps.across_is) (steps.other_num_is ∙ ap (int_div c) steps.back_is)

    den_e : den ≡ exact_quotient b h *ℤ exact_quotient d g
    den_e = steps.den_is ∙ ap₂ (λ (u v : ℤ). u *ℤ v) (steps.own_den_is ∙ ap (int_div b) steps.back_is) (steps.other_den_is ∙ ap (int_div d) steps.across_is)

    terms : IsLowestTerms (a *ℤ c) (b *ℤ d) num den
    terms = subst (λ (u : ℤ). IsLowestTerms (a *ℤ c) (b *ℤ d) u den) (sym num_e)
        (subst (λ (v : ℤ). IsLowestTerms (a *ℤ c) (b *ℤ d) (exact_quotient a g *ℤ exact_quotient c h) v) (sym den_e)
        (product_is_lowest a b c d lx.positive ly.positive lx.coprime ly.coprime))

-- ---- one fraction
-- dividing both by the greatest common divisor
pub reduced_made : (n d common num den : ℤ) → pos 0 <ℤ d → common ≡ pos (int_gcd n d) → num ≡ int_div n common → den ≡ int_div d common → record { numerator = num; denominator = den } ≡ lowest n d
reduced_made n (negsuc d) common num den h e f k = absurd h.lt
reduced_made n (pos d) common num den h e f k = ap₂ (λ (u v : ℤ). let r : Ratio = record { numerator = u; denominator = v } in r) (f ∙ ap (int_div n) e) (k ∙ ap (int_div (pos d)) e)

-- both with the other sign
pub lowest-negated : (n d : ℤ) → d <ℤ pos 0 → lowest (neg_ℤ n) (neg_ℤ d) ≡ lowest n d
lowest-negated n (pos d) h = absurd (omega (arith, ints))
lowest-negated n (negsuc d) h =
    let e : unsigned_abs (neg_ℤ n) ≡ unsigned_abs n = omega (arith, ints) in
    ap (λ (m : ℕ). let r : Ratio = record { numerator = exact_quotient (neg_ℤ n) (gcd m (suc d)); denominator = exact_quotient (pos (suc d)) (gcd m (suc d)) } in r) e

pub inverse_made : (x : Ratio) (num den : ℤ) → IsLowest x → x.numerator ≢ pos 0 → num ≡ signed_by x.numerator x.denominator → den ≡ signed_by x.numerator x.numerator → IsLowest (record { numerator = num; denominator = den }) × (record { numerator = num; denominator = den } ≡ reciprocal x)
inverse_made x num den lx h e f =
    let terms = subst (λ (u : ℤ). IsLowestTerms x.denominator x.numerator u den) (sym e)
    (subst (λ (v : ℤ). IsLowestTerms x.denominator x.numerator (signed_by x.numerator x.denominator) v) (sym f)
    (reciprocal_is_lowest x.numerator x.denominator lx.positive lx.coprime h)) in
    (lowest_from_terms x.denominator x.numerator num den terms, lowest_is x.denominator x.numerator num den h terms)

-- the sign that a number gives
pub signed_by-negative : (d n : ℤ) → d <ℤ pos 0 → neg_ℤ n ≡ signed_by d n
signed_by-negative (pos d) n h = absurd (omega (arith, ints))
signed_by-negative (negsuc d) n h = refl

pub signed_by-not_negative : (d n : ℤ) → ¬ (d <ℤ pos 0) → n ≡ signed_by d n
signed_by-not_negative (pos d) n h = refl
signed_by-not_negative (negsuc d) n h = absurd (h (omega (arith, ints)))
