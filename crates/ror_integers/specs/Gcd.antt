-- Greatest common divisors of two numbers, of two integers and of a list, and exact quotients.
use Rattle.std.specs.Prelude.{◌≡◌, ℕ, zero, suc, ◌*◌, ◌/◌, ◌<◌, ◌%◌, List, [], ◌∷◌, map, ℤ, pos, ◌*ℤ◌, unsigned_abs, int_div}
use Prim.Native.Nat.{◌∣◌}
use Rattle.std.specs.Int.{IsGcd}
use Rattle.std.specs.List.{AllByRecursion}
use Rattle.ror_integers.specs.Vectors.{scaled_row}

-- Euclid's algorithm in at most so many steps
abbrev pub gcd_within : ℕ → ℕ → ℕ → ℕ
gcd_within zero a b = a
gcd_within (suc steps) a zero = a
gcd_within (suc steps) a (suc b) = gcd_within steps (suc b) (a % suc b)

-- the greatest common divisor; that of 0 and 0 is 0
unfoldable pub gcd : ℕ → ℕ → ℕ
gcd a b = gcd_within b a b

-- the least common multiple; that of two numbers of which one is 0 is 0
abbrev pub least_common_multiple : ℕ → ℕ → ℕ
least_common_multiple m n = (m / gcd m n) * n

-- the greatest common divisor of two integers, by their absolute values
abbrev pub int_gcd : ℤ → ℤ → ℕ
int_gcd a b = gcd (unsigned_abs a) (unsigned_abs b)

-- of all entries of a list; 0 where each entry is 0
abbrev pub gcd_of : List ℤ → ℕ
gcd_of [] = 0
gcd_of (x ∷ xs) = gcd (unsigned_abs x) (gcd_of xs)

-- d divides each entry
abbrev pub DividesAll : ℕ → List ℤ → Type 0
DividesAll d xs = AllByRecursion (λ x. d ∣ unsigned_abs x) xs

-- x divided by d, where d divides x
abbrev pub exact_quotient : ℤ → ℕ → ℤ
exact_quotient x d = int_div x (pos d)

-- each entry divided by d
abbrev pub divided : List ℤ → ℕ → List ℤ
divided xs d = map (λ x. exact_quotient x d) xs

pub record GcdLaws : Type 0 where
  pub greatest_of_two : (a b : ℕ) → IsGcd a b (gcd a b)
  pub of_zeros : gcd 0 0 ≡ 0
  pub multiple_of_first : (m n : ℕ) → m ∣ least_common_multiple m n
  pub multiple_of_second : (m n : ℕ) → n ∣ least_common_multiple m n
  pub multiple_positive : (m n : ℕ) → 0 < m → 0 < n → 0 < least_common_multiple m n
  pub least_of_multiples :
      (m n k : ℕ)
      → 0 < m → 0 < n → m ∣ k → n ∣ k → least_common_multiple m n ∣ k
  pub divides_each : (xs : List ℤ) → DividesAll (gcd_of xs) xs
  pub greatest : (d : ℕ) (xs : List ℤ) → DividesAll d xs → d ∣ gcd_of xs
  pub scales : (k : ℤ) (xs : List ℤ) → gcd_of (scaled_row k xs) ≡ unsigned_abs k * gcd_of xs
  pub gauss : (a b c : ℕ) → gcd a b ≡ 1 → a ∣ b * c → a ∣ c
  pub quotient_is_exact : (x : ℤ) (d : ℕ) → d ∣ unsigned_abs x → exact_quotient x d *ℤ pos d ≡ x
  pub divided_times :
      (xs : List ℤ) (d : ℕ)
      → DividesAll d xs → scaled_row (pos d) (divided xs d) ≡ xs
  pub divided_coprime : (xs : List ℤ) → 0 < gcd_of xs → gcd_of (divided xs (gcd_of xs)) ≡ 1
  pub quotients_coprime :
      (a b : ℤ)
      → 0 < int_gcd a b
      → int_gcd (exact_quotient a (int_gcd a b)) (exact_quotient b (int_gcd a b)) ≡ 1
