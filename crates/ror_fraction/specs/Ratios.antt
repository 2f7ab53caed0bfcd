-- Fractions as pairs of integers: lowest terms, sums, products and reciprocals, and the numbers that they are made by.
use Rattle.std.specs.Prelude.{◌≡◌, List, [], ◌∷◌, ℤ, pos, ◌+ℤ◌, ◌*ℤ◌, neg_ℤ, ◌<ℤ◌}
use Rattle.std.specs.declared.cmp.Ordering.{Ordering}
use Rattle.ror_integers.specs.FractionOrder.{fraction_cmp}
use Rattle.ror_integers.specs.Gcd.{int_gcd, exact_quotient}
use Rattle.ror_integers.specs.LowestTerms.{lowest_numerator, lowest_denominator}
use Rattle.ror_fraction.specs.declared.fault.Part.{Part}
use Rattle.ror_fraction.specs.declared.fault.Part.TheVariants.{Left, Right, Sum, Numerator, Denominator}

-- a numerator over a denominator
pub record Ratio : Type 0 where
  pub numerator : ℤ
  pub denominator : ℤ

-- in lowest terms, over a denominator above 0
pub record IsLowest (x : Ratio) : Type 0 where
  pub positive : pos 0 <ℤ x.denominator
  pub coprime : int_gcd x.numerator x.denominator ≡ 1

-- n / d in lowest terms
abbrev pub lowest : ℤ → ℤ → Ratio
lowest n d = record { numerator = lowest_numerator n d; denominator = lowest_denominator n d }

-- x + y in lowest terms
abbrev pub sum_of : Ratio → Ratio → Ratio
sum_of x y =
    lowest (x.numerator *ℤ y.denominator +ℤ y.numerator *ℤ x.denominator)
    (x.denominator *ℤ y.denominator)

-- the numbers that a sum is made by: each numerator over the common denominator, their sum, the denominator
abbrev pub sum_numbers : Ratio → Ratio → List (Part × ℤ)
sum_numbers x y =
    let g = int_gcd x.denominator y.denominator in
    let left = x.numerator *ℤ exact_quotient y.denominator g in
    let right = y.numerator *ℤ exact_quotient x.denominator g in
    let h = int_gcd (left +ℤ right) (pos g) in
    let denominator = exact_quotient x.denominator g *ℤ exact_quotient y.denominator h in
    (Left, left) ∷ (Right, right) ∷ (Sum, left +ℤ right) ∷ (Denominator, denominator) ∷ []

-- x with the other sign
abbrev pub negated : Ratio → Ratio
negated x = record { numerator = neg_ℤ x.numerator; denominator = x.denominator }

-- x times y in lowest terms
abbrev pub product_of : Ratio → Ratio → Ratio
product_of x y = lowest (x.numerator *ℤ y.numerator) (x.denominator *ℤ y.denominator)

-- the numbers that a product is made by: its numerator and its denominator, both reduced crosswise
abbrev pub product_numbers : Ratio → Ratio → List (Part × ℤ)
product_numbers x y =
    let g = int_gcd x.numerator y.denominator in
    let h = int_gcd y.numerator x.denominator in
    let numerator = exact_quotient x.numerator g *ℤ exact_quotient y.numerator h in
    let denominator = exact_quotient x.denominator h *ℤ exact_quotient y.denominator g in
    (Numerator, numerator) ∷ (Denominator, denominator) ∷ []

-- 1 / x in lowest terms, where x is not 0
abbrev pub reciprocal : Ratio → Ratio
reciprocal x = lowest x.denominator x.numerator

-- how x compares with y
abbrev pub ratio_cmp : Ratio → Ratio → Ordering
ratio_cmp x y = fraction_cmp x.numerator x.denominator y.numerator y.denominator
