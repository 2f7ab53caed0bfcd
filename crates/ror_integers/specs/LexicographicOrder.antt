-- The lexicographic order of lists of integers, and of lists divided by a number above 0.
use Rattle.std.specs.Prelude.{◌≡◌, ◌⊎◌, ◌↔◌, List, [], ◌∷◌, length, ℤ, pos, ◌*ℤ◌, ◌<ℤ◌}
use Rattle.std.specs.Cmp.{IsTotalOrder}
use Rattle.std.specs.Cmp.Lexicographic.{slice_cmp}
use Rattle.std.specs.Ordering.{int_cmp, ordering_reverse}
use Rattle.std.specs.declared.cmp.Ordering.{Ordering}
use Rattle.std.specs.declared.cmp.Ordering.TheVariants.{Less, Equal}
use Rattle.ror_integers.specs.Vectors.{scaled_row, row_difference}
use Rattle.ror_integers.specs.FractionOrder.{fraction_cmp}

-- the first entries that differ decide
abbrev pub lexicographic_cmp : List ℤ → List ℤ → Ordering
lexicographic_cmp xs ys = slice_cmp int_cmp xs ys

-- the same of the lists of fractions x / p and y / q, where p and q are above 0
abbrev pub scaled_lexicographic_cmp : ℤ → List ℤ → ℤ → List ℤ → Ordering
scaled_lexicographic_cmp p xs q ys = slice_cmp (λ x y. fraction_cmp x p y q) xs ys

-- the first entry that is not 0 is above 0
abbrev pub LexicographicallyPositive : List ℤ → Type 0
LexicographicallyPositive [] = ⊥
LexicographicallyPositive (x ∷ xs) = (pos 0 <ℤ x) ⊎ ((x ≡ pos 0) × LexicographicallyPositive xs)

pub record LexicographicOrder : Type 0 where
  pub total_order : IsTotalOrder lexicographic_cmp
  pub equal_only_itself : (xs ys : List ℤ) → (lexicographic_cmp xs ys ≡ Equal) ↔ (xs ≡ ys)
  pub less :
      (xs ys : List ℤ)
      → length xs ≡ length ys
      → (lexicographic_cmp xs ys ≡ Less) ↔ LexicographicallyPositive (row_difference ys xs)
  pub of_scaled_rows :
      (k : ℤ) (xs ys : List ℤ)
      → pos 0 <ℤ k → lexicographic_cmp (scaled_row k xs) (scaled_row k ys) ≡ lexicographic_cmp xs ys
  pub scaled_is :
      (p q : ℤ) (xs ys : List ℤ)
      → scaled_lexicographic_cmp p xs q ys ≡ lexicographic_cmp (scaled_row q xs) (scaled_row p ys)
  pub scaled_reflexive : (p : ℤ) (xs : List ℤ) → scaled_lexicographic_cmp p xs p xs ≡ Equal
  pub scaled_reversed :
      (p q : ℤ) (xs ys : List ℤ)
      → scaled_lexicographic_cmp p xs q ys ≡ ordering_reverse (scaled_lexicographic_cmp q ys p xs)
  pub scaled_transitive :
      (p q s : ℤ) (xs ys zs : List ℤ)
      → pos 0 <ℤ p → pos 0 <ℤ q → pos 0 <ℤ s → scaled_lexicographic_cmp p xs q ys ≡ Less
      → scaled_lexicographic_cmp q ys s zs ≡ Less → scaled_lexicographic_cmp p xs s zs ≡ Less
  pub scaled_congruent :
      (p q s : ℤ) (xs ys zs : List ℤ)
      → pos 0 <ℤ p → pos 0 <ℤ q → scaled_lexicographic_cmp p xs q ys ≡ Equal
      → scaled_lexicographic_cmp p xs s zs ≡ scaled_lexicographic_cmp q ys s zs
  pub scaled_by_factor :
      (k p q : ℤ) (xs ys : List ℤ)
      → pos 0 <ℤ k
      → scaled_lexicographic_cmp (k *ℤ p) (scaled_row k xs) q ys
      ≡ scaled_lexicographic_cmp p xs q ys
