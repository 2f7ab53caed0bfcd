-- Amounts: the fractions that performances are, how they compare, and what is worse.
use Rattle.std.specs.Prelude.{◌≡◌, ℕ, ◌<◌, Bool, ◌&&◌, nat_lt, Option, Some, None, if◌then◌else◌, ℤ, pos, ◌*ℤ◌, ◌<ℤ◌, unsigned_abs, int_lt}
use Rattle.std.specs.Ordering.{int_eq}
use Rattle.ror_integers.specs.Gcd.{int_gcd}
use Rattle.ror_integers.specs.LowestTerms.{lowest_numerator, lowest_denominator}
use Rattle.ror_table.specs.declared.amount.Amount.{Amount}
use Rattle.ror_table.specs.declared.direction.Direction.{Direction}
use Rattle.ror_table.specs.declared.direction.Direction.TheVariants.{Max, Min}
use Rattle.ror_table.specs.declared.limits.TheConstants.{AMOUNT_LIMIT}

-- a fraction in lowest terms, with a denominator above 0, of numbers below the limit
pub record IsAmount (p : Amount) : Type 0 where
  pub positive : pos 0 <ℤ p.den
  pub coprime : int_gcd p.num p.den ≡ 1
  pub num_bounded : unsigned_abs p.num < AMOUNT_LIMIT
  pub den_bounded : unsigned_abs p.den < AMOUNT_LIMIT

-- n / d in lowest terms
abbrev pub lowest : ℤ → ℤ → Amount
lowest n d = record { num = lowest_numerator n d; den = lowest_denominator n d }

-- a whole number
abbrev pub whole : ℤ → Amount
whole n = record { num = n; den = pos 1 }

-- whether the number is of absolute value below the limit
abbrev pub is_within : ℤ → Bool
is_within n = nat_lt (unsigned_abs n) AMOUNT_LIMIT

-- the amount n / d, where d is above 0 and both numbers are below the limit
unfoldable pub amount_of : ℤ → ℤ → Option Amount
amount_of n d = if int_lt (pos 0) d && is_within n && is_within d then Some (lowest n d) else None

-- the two amounts are one performance
abbrev pub is_same : Amount → Amount → Bool
is_same p q = int_eq p.num q.num && int_eq p.den q.den

-- p is smaller than q
abbrev pub is_smaller : Amount → Amount → Bool
is_smaller p q = int_lt (p.num *ℤ q.den) (q.num *ℤ p.den)

-- the performance p is worse than q
abbrev pub is_worse : Direction → Amount → Amount → Bool
is_worse Max p q = is_smaller p q
is_worse Min p q = is_smaller q p
