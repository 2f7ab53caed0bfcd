-- Comparing ratios by whole parts and rests.
use Rattle.std.proofs.Common.{◌≡◌, ◌≢◌, ◌⊎◌, inl, inr, ℤ, pos, ◌+ℤ◌, ◌*ℤ◌, ◌≤ℤ◌, ◌<ℤ◌, refl, ap, ap₂, sym, ◌∙◌, int_cmp}
use Rattle.std.specs.declared.cmp.Ordering.{Ordering}
use Rattle.std.specs.declared.cmp.Ordering.TheVariants.{Less, Equal, Greater}
use Rattle.ror_integers.specs.FractionOrder.{fraction_cmp}
use Rattle.ror_integers.proofs.Comparisons.{equal_means, less_means, greater_means, fraction_cmp_by_whole_parts, fraction_cmp_by_whole_parts_greater, fraction_cmp_by_rests, fraction_cmp_zero_left, fraction_cmp_zero_right, fraction_cmp_of_inverses}

-- a is m times p and the rest c
pub record IsSplit (a p m c : ℤ) : Type 0 where
  pub exact : a ≡ m *ℤ p +ℤ c
  pub not_negative : pos 0 ≤ℤ c
  pub below : c <ℤ p

pub by_wholes : (a p b q m c n d : ℤ) → pos 0 <ℤ p → pos 0 <ℤ q → IsSplit a p m c → IsSplit b q n d → int_cmp m n ≢ Equal → fraction_cmp a p b q ≡ int_cmp m n
by_wholes a p b q m c n d hp hq left right h = ap₂ (λ (x y : ℤ). fraction_cmp x p y q) left.exact right.exact ∙ by_order (int_cmp m n) refl h
  where
    by_order : (o : Ordering) → int_cmp m n ≡ o → o ≢ Equal → fraction_cmp (m *ℤ p +ℤ c) p (n *ℤ q +ℤ d) q ≡ o
    by_order Less e k = fraction_cmp_by_whole_parts p q m n c d left.below left.not_negative right.not_negative hq (less_means m n e)
    by_order Equal e k = absurd (k refl)
    by_order Greater e k = fraction_cmp_by_whole_parts_greater p q m n c d right.below left.not_negative right.not_negative hp (greater_means m n e)

pub by_rests : (a p b q m c n d : ℤ) → IsSplit a p m c → IsSplit b q n d → int_cmp m n ≡ Equal → fraction_cmp a p b q ≡ fraction_cmp c p d q
by_rests a p b q m c n d left right e =
    ap₂ (λ (x y : ℤ). fraction_cmp x p y q) left.exact (right.exact ∙ ap (λ (k : ℤ). k *ℤ q +ℤ d) (sym (equal_means m n e)))
    ∙ fraction_cmp_by_rests p q m c d

-- one of the rests is 0
pub by_zero : (c p d q : ℤ) → pos 0 <ℤ p → pos 0 <ℤ q → (c ≡ pos 0) ⊎ (d ≡ pos 0) → fraction_cmp c p d q ≡ int_cmp c d
by_zero c p d q hp hq (inl e) = ap (λ (x : ℤ). fraction_cmp x p d q) e ∙ fraction_cmp_zero_left p d q hp ∙ ap (λ (x : ℤ). int_cmp x d) (sym e)
by_zero c p d q hp hq (inr e) = ap (λ (x : ℤ). fraction_cmp c p x q) e ∙ fraction_cmp_zero_right c p q hq ∙ ap (int_cmp c) (sym e)

pub by_inverses : (c p d q : ℤ) → fraction_cmp c p d q ≡ fraction_cmp q d p c
by_inverses c p d q = fraction_cmp_of_inverses c p d q
