-- The order of fractions by cross products.
use Rattle.std.specs.Prelude.{◌≡◌, ℤ, pos, ◌+ℤ◌, ◌*ℤ◌, ◌≤ℤ◌, ◌<ℤ◌, ◌↔◌}
use Rattle.std.specs.Ordering.{int_cmp, ordering_reverse}
use Rattle.std.specs.declared.cmp.Ordering.{Ordering}
use Rattle.std.specs.declared.cmp.Ordering.TheVariants.{Less, Equal}

-- how p / q compares with r / s, where q and s are above 0
abbrev pub fraction_cmp : ℤ → ℤ → ℤ → ℤ → Ordering
fraction_cmp p q r s = int_cmp (p *ℤ s) (r *ℤ q)

pub record FractionOrder : Type 0 where
  pub reflexive : (p q : ℤ) → fraction_cmp p q p q ≡ Equal
  pub reversed : (p q r s : ℤ) → fraction_cmp p q r s ≡ ordering_reverse (fraction_cmp r s p q)
  pub less : (p q r s : ℤ) → (fraction_cmp p q r s ≡ Less) ↔ ((p *ℤ s) <ℤ (r *ℤ q))
  pub equal : (p q r s : ℤ) → (fraction_cmp p q r s ≡ Equal) ↔ (p *ℤ s ≡ r *ℤ q)
  pub transitive :
      (p q r s t u : ℤ)
      → pos 0 <ℤ q → pos 0 <ℤ s → pos 0 <ℤ u → fraction_cmp p q r s ≡ Less
      → fraction_cmp r s t u ≡ Less → fraction_cmp p q t u ≡ Less
  pub congruent :
      (p q r s t u : ℤ)
      → pos 0 <ℤ q → pos 0 <ℤ s → fraction_cmp p q r s ≡ Equal
      → fraction_cmp p q t u ≡ fraction_cmp r s t u
  pub of_scaled :
      (k p q r s : ℤ)
      → pos 0 <ℤ k → fraction_cmp (k *ℤ p) (k *ℤ q) r s ≡ fraction_cmp p q r s
  pub of_integers : (p r : ℤ) → fraction_cmp p (pos 1) r (pos 1) ≡ int_cmp p r
  pub of_inverses : (p q r s : ℤ) → fraction_cmp p q r s ≡ fraction_cmp s r q p
  pub by_whole_parts :
      (q s m n c d : ℤ)
      → c <ℤ q → pos 0 ≤ℤ c → pos 0 ≤ℤ d → pos 0 <ℤ s → m <ℤ n
      → fraction_cmp (m *ℤ q +ℤ c) q (n *ℤ s +ℤ d) s ≡ Less
  pub by_rests :
      (q s m c d : ℤ)
      → fraction_cmp (m *ℤ q +ℤ c) q (m *ℤ s +ℤ d) s ≡ fraction_cmp c q d s
