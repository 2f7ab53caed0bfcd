-- Lowest terms of fractions and of lists: the greatest common divisor is divided out, and the denominator is above 0.
use Rattle.std.specs.Prelude.{◌≡◌, ◌≢◌, ◌<◌, List, ℤ, pos, negsuc, ◌*ℤ◌, neg_ℤ, ◌<ℤ◌}
use Rattle.ror_integers.specs.Vectors.{scaled_row}
use Rattle.ror_integers.specs.Gcd.{int_gcd, gcd_of, exact_quotient, divided}

-- p / q is n / d in lowest terms
pub record IsLowestTerms (n d p q : ℤ) : Type 0 where
  pub positive : pos 0 <ℤ q
  pub coprime : int_gcd p q ≡ 1
  pub same_value : p *ℤ d ≡ n *ℤ q

-- n where d is not negative, else n negated
abbrev pub signed_by : ℤ → ℤ → ℤ
signed_by (pos d) n = n
signed_by (negsuc d) n = neg_ℤ n

-- the numerator of n / d in lowest terms
abbrev pub lowest_numerator : ℤ → ℤ → ℤ
lowest_numerator n d = exact_quotient (signed_by d n) (int_gcd n d)

-- its denominator
abbrev pub lowest_denominator : ℤ → ℤ → ℤ
lowest_denominator n d = exact_quotient (signed_by d d) (int_gcd n d)

-- a list with its greatest common divisor divided out
abbrev pub reduced : List ℤ → List ℤ
reduced xs = divided xs (gcd_of xs)

pub record LowestTermsLaws : Type 0 where
  pub exist :
      (n d : ℤ)
      → d ≢ pos 0 → IsLowestTerms n d (lowest_numerator n d) (lowest_denominator n d)
  pub unique :
      (n d p q r s : ℤ)
      → d ≢ pos 0 → IsLowestTerms n d p q → IsLowestTerms n d r s → (p ≡ r) × (q ≡ s)
  pub same_from_same_value :
      (p q r s : ℤ)
      → pos 0 <ℤ q → pos 0 <ℤ s → int_gcd p q ≡ 1 → int_gcd r s ≡ 1 → p *ℤ s ≡ r *ℤ q
      → (p ≡ r) × (q ≡ s)
  pub reduced_coprime : (xs : List ℤ) → 0 < gcd_of xs → gcd_of (reduced xs) ≡ 1
  pub reduced_of_scaled :
      (k : ℤ) (xs : List ℤ)
      → pos 0 <ℤ k → 0 < gcd_of xs → reduced (scaled_row k xs) ≡ reduced xs
  pub proportional_same :
      (a b : ℤ) (xs ys : List ℤ)
      → pos 0 <ℤ a → pos 0 <ℤ b → gcd_of xs ≡ 1 → gcd_of ys ≡ 1 → scaled_row a xs ≡ scaled_row b ys
      → xs ≡ ys
