-- The laws of sums, differences and products of integers.
use Rattle.std.specs.Prelude.{◌≡◌, ℤ, pos, ◌+ℤ◌, ◌-ℤ◌, ◌*ℤ◌, neg_ℤ}

pub record RingLaws : Type 0 where
  pub sum_commutes : (a b : ℤ) → a +ℤ b ≡ b +ℤ a
  pub sum_associates : (a b c : ℤ) → (a +ℤ b) +ℤ c ≡ a +ℤ (b +ℤ c)
  pub sum_with_zero : (a : ℤ) → a +ℤ pos 0 ≡ a
  pub sum_with_negation : (a : ℤ) → a +ℤ neg_ℤ a ≡ pos 0
  pub difference_is_sum : (a b : ℤ) → a -ℤ b ≡ a +ℤ neg_ℤ b
  pub product_commutes : (a b : ℤ) → a *ℤ b ≡ b *ℤ a
  pub product_associates : (a b c : ℤ) → (a *ℤ b) *ℤ c ≡ a *ℤ (b *ℤ c)
  pub product_with_one : (a : ℤ) → a *ℤ pos 1 ≡ a
  pub product_of_sum : (a b c : ℤ) → a *ℤ (b +ℤ c) ≡ a *ℤ b +ℤ a *ℤ c
