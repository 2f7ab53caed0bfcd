-- The laws of the order of integers with sums and products.
use Rattle.std.specs.Prelude.{◌≡◌, ◌⊎◌, ◌*◌, ℤ, pos, ◌+ℤ◌, ◌*ℤ◌, ◌≤ℤ◌, ◌<ℤ◌, unsigned_abs}

pub record OrderLaws : Type 0 where
  pub total : (a b : ℤ) → (a ≤ℤ b) ⊎ (b <ℤ a)
  pub antisymmetric : (a b : ℤ) → a ≤ℤ b → b ≤ℤ a → a ≡ b
  pub transitive : (a b c : ℤ) → a ≤ℤ b → b ≤ℤ c → a ≤ℤ c
  pub strict : (a b : ℤ) → a <ℤ b → ¬ (b ≤ℤ a)
  pub sum_keeps : (a b c : ℤ) → a ≤ℤ b → (c +ℤ a) ≤ℤ (c +ℤ b)
  pub product_keeps : (k a b : ℤ) → pos 0 ≤ℤ k → a ≤ℤ b → (k *ℤ a) ≤ℤ (k *ℤ b)
  pub product_keeps_strict : (k a b : ℤ) → pos 0 <ℤ k → a <ℤ b → (k *ℤ a) <ℤ (k *ℤ b)
  pub factor_cancels : (k a b : ℤ) → pos 0 <ℤ k → (k *ℤ a) ≤ℤ (k *ℤ b) → a ≤ℤ b
  pub factor_cancels_strict : (k a b : ℤ) → pos 0 <ℤ k → (k *ℤ a) <ℤ (k *ℤ b) → a <ℤ b
  pub no_zero_divisors : (a b : ℤ) → a *ℤ b ≡ pos 0 → (a ≡ pos 0) ⊎ (b ≡ pos 0)
  pub absolute_product : (a b : ℤ) → unsigned_abs (a *ℤ b) ≡ unsigned_abs a * unsigned_abs b
